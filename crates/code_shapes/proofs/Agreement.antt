-- A CODE IS ITS OWN BYTES: two readings that agree in the bytes that a code reads give it the same shape. Assumes nothing.
use mathlib.Core.Path.{◌≡◌, refl}
use Prim.Native.Nat.{ℕ}
use Rattle.codes.specs.declared.Code.{Code}
use Rattle.codes.specs.declared.Code.TheVariants.{Envelope, Lfo, LfoUnipolar, Fade, LowPass, HighPass, Oscillator, Noise}
use Rattle.codes.specs.declared.OscillatorId.TheVariants.{One, Two}
use Rattle.code_bytes.specs.Bytes.{Agree, bytes_of}
use Rattle.code_settings.specs.Settings.{envelope_at, lfo_at, oscillator_at}
use Rattle.code_shapes.specs.Shapes.{shape_of}

pub agreement : (c : Code) (a b : ℕ → ℕ) → Agree (bytes_of c) a b → shape_of c a ≡ shape_of c b
unfolding Agree bytes_of shape_of envelope_at lfo_at oscillator_at
agreement (Envelope id) a b h = simp (h.0, h.1.0, h.1.1.0, h.1.1.1.0, h.1.1.1.1.0, h.1.1.1.1.1.0, h.1.1.1.1.1.1.0, h.1.1.1.1.1.1.1.0)
agreement (Lfo id) a b h = simp (h.0, h.1.0, h.1.1.0)
agreement (LfoUnipolar id) a b h = simp (h.0, h.1.0, h.1.1.0)
agreement (Fade id) a b h = simp h.0
agreement LowPass a b h = simp (h.0, h.1.0)
agreement HighPass a b h = refl
agreement (Oscillator One) a b h = simp (h.0, h.1.0, h.1.1.0, h.1.1.1.0)
agreement (Oscillator Two) a b h = simp h.0
agreement Noise a b h = simp h.0
