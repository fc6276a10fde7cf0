-- A NUMBER OF TURNS FOR THE SAMPLED SHAPES: docs/SPECIFICATION.md, "Turns". Definitions only.
use Rattle.std.specs.Prelude.{Bool, true, false, cond, List, [], ℕ, eqb, Option, None, Some}
use Rattle.settings.specs.declared.LfoShape.{LfoShape}
use Rattle.settings.specs.declared.LfoShape.TheVariants.{Sine, Triangle, Square, RampUp, RampDown, SampleAndHold, SampleAndGlide}
use Rattle.settings.specs.declared.SampledTurns.{SampledTurns}
use Rattle.settings.specs.declared.SampledTurns.TheVariants.{Six, Eight}
use Rattle.settings.specs.Settings.{turned_lfo}
use Rattle.generator.specs.declared.Shape.{Shape}
use Rattle.generator.specs.declared.Shape.TheVariants.{Envelope as AnEnvelope, Fade as AFade, Lfo as AnLfo, Filter as AFilter, Oscillator as AnOscillator, Noise as ANoise}

-- 6 and 8 are numbers of turns, and no other number is.
unfoldable pub turns_read : ℕ → Option SampledTurns
turns_read n = cond (eqb n 6) (Some Six) (cond (eqb n 8) (Some Eight) None)

-- A text that is written at a number of turns: at another than 6 or 8 there is none.
unfoldable pub turns_text : (SampledTurns → List ℕ) → Option SampledTurns → List ℕ
turns_text text (Some n) = text n
turns_text text None = []

-- A shape at n turns of the sampled ones: an LFO has the turns of its own shape, and all else is as it was.
unfoldable pub turned_of : SampledTurns → Shape → Shape
turned_of n (AnEnvelope e) = AnEnvelope e
turned_of n (AFade f) = AFade f
turned_of n (AnLfo l) = AnLfo (turned_lfo n l)
turned_of n (AFilter f) = AFilter f
turned_of n (AnOscillator o) = AnOscillator o
turned_of n (ANoise s) = ANoise s

-- Whether a shape is sampled: an LFO's 5 and 6.
abbrev pub is_sampled : LfoShape → Bool
is_sampled Sine = false
is_sampled Triangle = false
is_sampled Square = false
is_sampled RampUp = false
is_sampled RampDown = false
is_sampled SampleAndHold = true
is_sampled SampleAndGlide = true

unfoldable pub sampled : Shape → Bool
sampled (AnEnvelope e) = false
sampled (AFade f) = false
sampled (AnLfo l) = is_sampled l.shape
sampled (AFilter f) = false
sampled (AnOscillator o) = false
sampled (ANoise s) = false
