-- WHAT IS PROMISED OF A SHAPE'S HEIGHT, by its settings: specs/Promises states it by a code and its bytes, and EveryCode proves that from this. Definitions only.
use mathlib.Core.Bool.{Bool, false, not, cond}
use lib.Ieee.{Float, le}
use Rattle.exact.specs.Fraction.{Fraction, ratio}
use Rattle.exact.specs.Binary32.{zero₃₂}
use Rattle.curve.specs.declared.Height.{Height}
use Rattle.settings.specs.declared.SampledTurns.{SampledTurns}
use Rattle.settings.specs.Settings.{turns_number}
use Rattle.walk.proofs.WalkError.{walked_part}
use Rattle.generator.specs.declared.Shape.{Shape}
use Rattle.generator.specs.declared.Shape.TheVariants.{Envelope as AnEnvelope, Fade as AFade, Lfo as AnLfo, Filter as AFilter, Oscillator as AnOscillator, Noise as ANoise}
use Rattle.code_heights.specs.Promises.{Promised}

-- How far the height and the exact height may be apart, at n turns of the sampled shapes.
unfoldable pub shape_bound : SampledTurns → Shape → Fraction
shape_bound n (AnEnvelope e) = ratio 1 131072
shape_bound n (AFade f) = ratio 1 262144
shape_bound n (AnLfo l) = cond (le l.slew zero₃₂) (ratio 1 262144) (ratio 1 (walked_part n))
shape_bound n (AFilter f) = ratio 1 262144
shape_bound n (AnOscillator o) = ratio 1 262144
shape_bound n (ANoise s) = ratio 1 262144

-- Whether the height is walked: an LFO's whose slew is above 0.
unfoldable pub slewed : Shape → Bool
slewed (AnEnvelope e) = false
slewed (AFade f) = false
slewed (AnLfo l) = not (le l.slew zero₃₂)
slewed (AFilter f) = false
slewed (AnOscillator o) = false
slewed (ANoise n) = false

abbrev pub ShapePromised : SampledTurns → Shape → Float → Height → Type 0
ShapePromised n s = Promised s (slewed s) (turns_number n) (shape_bound n s)
