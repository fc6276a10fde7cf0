-- THE HEIGHT OF EVERY SHAPE: docs/SPECIFICATION.md, "The curves" and "Exact heights". Definitions only.
use Rattle.std.specs.Prelude.{Float}
use Rattle.exact.specs.Fraction.{Fraction}
use Rattle.exact.specs.Binary32.{zero₃₂}
use Rattle.curve.specs.declared.Height.{Height}
use Rattle.envelope.specs.Formula.{envelope_height_of}
use Rattle.envelope.specs.Exact.{envelope_heightℚ}
use Rattle.fade.specs.Formula.{fade_height_of}
use Rattle.oscillator.specs.Formula.{oscillator_height_of}
use Rattle.noise.specs.Formula.{noise_height_of}
use Rattle.fade.specs.Exact.{fade_heightℚ}
use Rattle.oscillator.specs.Exact.{oscillator_heightℚ}
use Rattle.noise.specs.Exact.{noise_heightℚ}
use Rattle.filter.specs.Formula.{filter_height_of}
use Rattle.filter.specs.Exact.{filter_heightℚ}
use Rattle.lfo.specs.Formula.{lfo_height_of, phase_of}
use Rattle.lfo.specs.Exact.{lfo_heightℚ}
use Rattle.generator.specs.declared.Shape.{Shape}
use Rattle.generator.specs.declared.Shape.TheVariants.{Envelope as AnEnvelope, Fade as AFade, Lfo as AnLfo, Filter as AFilter, Oscillator as AnOscillator, Noise as ANoise}

-- The height and the steps of a shape at a position, in binary32.
unfoldable pub height_of : Shape → Float → Height
height_of (AnEnvelope e) t = envelope_height_of e t
height_of (AFade f) t = fade_height_of f t
height_of (AnLfo l) t = lfo_height_of l t
height_of (AFilter f) t = filter_height_of f t
height_of (AnOscillator o) t = oscillator_height_of o t
height_of (ANoise n) t = noise_height_of n t

-- The exact height.
unfoldable pub heightℚ : Shape → Float → Fraction
heightℚ (AnEnvelope e) t = envelope_heightℚ e t
heightℚ (AFade f) t = fade_heightℚ f t
heightℚ (AnLfo l) t = lfo_heightℚ l t
heightℚ (AFilter f) t = filter_heightℚ f t
heightℚ (AnOscillator o) t = oscillator_heightℚ o t
heightℚ (ANoise n) t = noise_heightℚ n t

-- The phase that a shape's walk goes to: an LFO's own. Nothing else has one.
unfoldable pub walk_phase : Shape → Float → Float
walk_phase (AnEnvelope e) t = zero₃₂
walk_phase (AFade f) t = zero₃₂
walk_phase (AnLfo l) t = phase_of l t
walk_phase (AFilter f) t = zero₃₂
walk_phase (AnOscillator o) t = zero₃₂
walk_phase (ANoise n) t = zero₃₂
