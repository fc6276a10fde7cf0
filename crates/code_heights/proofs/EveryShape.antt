-- WHAT IS PROMISED OF EVERY SHAPE, at every f32 position: its height is a number from 0 to 1, no further from the exact height than the shape's bound, and its steps are a walk's, or 0.
-- Of the settings only the ranges are asked that every byte gives. Assumes nothing.
use mathlib.Core.Path.{◌≡◌, refl}
use mathlib.Core.Bool.{Bool, true, false, not}
use lib.Dec.{T}
use lib.Ieee.{Float, binary32, fits, le}
use Rattle.exact.specs.Binary32.{zero₃₂}
use Rattle.curve.specs.Curve.{drawn_of, Drawn}
use Rattle.settings.specs.declared.SampledTurns.{SampledTurns}
use Rattle.settings.specs.declared.Lfo.{Lfo}
use Rattle.settings.proofs.Ranges.{EnvelopeRange, FadeRange, FilterRange, OscillatorRange, NoiseRange}
use Rattle.envelope.specs.Formula.{envelope_height_of}
use Rattle.envelope.proofs.Distance.{envelope_drawn}
use Rattle.fade.specs.Formula.{fade_height_of}
use Rattle.oscillator.specs.Formula.{oscillator_height_of}
use Rattle.noise.specs.Formula.{noise_height_of}
use Rattle.fade.proofs.Distance.{fade_drawn}
use Rattle.oscillator.proofs.Distance.{oscillator_drawn}
use Rattle.noise.proofs.Distance.{noise_drawn}
use Rattle.filter.specs.Formula.{filter_height_of}
use Rattle.filter.proofs.FilterError.{filter_drawn}
use Rattle.lfo.proofs.Steps.{lfo_steps, no_steps}
use Rattle.lfo.proofs.LfoDrawn.{WalkRange, lfo_drawn}
use Rattle.generator.specs.declared.Shape.{Shape}
use Rattle.generator.specs.declared.Shape.TheVariants.{Envelope as AnEnvelope, Fade as AFade, Lfo as AnLfo, Filter as AFilter, Oscillator as AnOscillator, Noise as ANoise}
use Rattle.shape_heights.specs.Heights.{height_of, heightℚ, walk_phase}
use Rattle.code_heights.proofs.Promised.{shape_bound, slewed, ShapePromised}

-- all that the bounds use of a shape's settings, at n turns of the sampled shapes
unfoldable pub ShapeRange : SampledTurns → Shape → Type 0
ShapeRange n (AnEnvelope e) = EnvelopeRange e
ShapeRange n (AFade f) = FadeRange f
ShapeRange n (AnLfo l) = WalkRange n l
ShapeRange n (AFilter f) = FilterRange f
ShapeRange n (AnOscillator o) = OscillatorRange o
ShapeRange n (ANoise s) = NoiseRange s

-- ---- a shape that is not walked
unwalked : (n : SampledTurns) (s : Shape) (t : Float) → T (not (slewed s)) → (height_of s t).steps ≡ 0 → Drawn (height_of s t).height (heightℚ s t) (shape_bound n s) → ShapePromised n s t (height_of s t)
unwalked n s t u e d = record { drawn = d; walked = λ h. absurd (both (slewed s) h u); none = λ _. e }
  where
    both : (b : Bool) → T b → T (not b) → ⊥
    both true h u = u
    both false h u = h

-- ---- an LFO
lfo_promised : (n : SampledTurns) (l : Lfo) (t : Float) → WalkRange n l → T (fits binary32 t) → ShapePromised n (AnLfo l) t (height_of (AnLfo l) t)
unfolding height_of heightℚ shape_bound slewed walk_phase
lfo_promised n l t r f =
    record {
      drawn = lfo_drawn n l t r f;
      walked = λ h. lfo_steps n l t r.range h f;
      none = λ h. no_steps l t (twice (le l.slew zero₃₂) h);
    }
  where
    twice : (b : Bool) → T (not (not b)) → T b
    twice true h = h
    twice false h = h

-- EVERY SHAPE
pub every_shape : (n : SampledTurns) (s : Shape) → ShapeRange n s → (t : Float) → T (fits binary32 t) → ShapePromised n s t (height_of s t)
unfolding ShapeRange height_of heightℚ shape_bound slewed envelope_height_of fade_height_of filter_height_of oscillator_height_of noise_height_of drawn_of
every_shape n (AnEnvelope e) r t f = unwalked n (AnEnvelope e) t tt refl (envelope_drawn e r t f)
every_shape n (AFade x) r t f = unwalked n (AFade x) t tt refl (fade_drawn x r t f)
every_shape n (AnLfo l) r t f = lfo_promised n l t r f
every_shape n (AFilter x) r t f = unwalked n (AFilter x) t tt refl (filter_drawn x r t f)
every_shape n (AnOscillator o) r t f = unwalked n (AnOscillator o) t tt refl (oscillator_drawn o r t f)
every_shape n (ANoise s) r t f = unwalked n (ANoise s) t tt refl (noise_drawn s r t f)
