-- THE SHAPE OF A CODE: docs/SPECIFICATION.md, "The block and its codes". A reading gives the byte of each number. Definitions only.
use Rattle.std.specs.Prelude.{true, false, ℕ}
use Rattle.settings.specs.Settings.{fade_of, low_pass_of, high_pass_of, noise_of}
use Rattle.generator.specs.declared.Shape.{Shape}
use Rattle.generator.specs.declared.Shape.TheVariants.{Envelope as AnEnvelope, Fade as AFade, Lfo as AnLfo, Filter as AFilter, Oscillator as AnOscillator, Noise as ANoise}
use Rattle.codes.specs.declared.Code.{Code}
use Rattle.codes.specs.declared.Code.TheVariants.{Envelope as TheEnvelope, Lfo as TheLfo, LfoUnipolar, Fade, LowPass, HighPass, Oscillator as TheOscillator, Noise}
use Rattle.code_bytes.specs.Bytes.{noise_byte, resonance_byte, pole_byte, envelope_first, lfo_first, fade_byte}
use Rattle.code_settings.specs.Settings.{envelope_at, lfo_at, oscillator_at}

-- The shape of a code, from a reading.
unfoldable pub shape_of : Code → (ℕ → ℕ) → Shape
shape_of (TheEnvelope id) b = AnEnvelope (envelope_at b (envelope_first id))
shape_of (TheLfo id) b = AnLfo (lfo_at b (lfo_first id) false)
shape_of (LfoUnipolar id) b = AnLfo (lfo_at b (lfo_first id) true)
shape_of (Fade id) b = AFade (fade_of (b (fade_byte id)))
shape_of LowPass b = AFilter (low_pass_of (b resonance_byte) (b pole_byte))
shape_of HighPass b = AFilter high_pass_of
shape_of (TheOscillator id) b = AnOscillator (oscillator_at b id)
shape_of Noise b = ANoise (noise_of (b noise_byte))
