-- WHAT TAKES NO STEPS: a shape that is not an LFO's, and an LFO without slew. Assumes nothing.
use mathlib.Core.Path.{◌≡◌, refl}
use mathlib.Core.Bool.{Bool, true, false, not}
use lib.Dec.{T}
use lib.Ieee.{Float, le}
use Rattle.exact.specs.Binary32.{zero₃₂}
use Rattle.curve.specs.Curve.{drawn_of}
use Rattle.settings.specs.declared.Lfo.{Lfo}
use Rattle.envelope.specs.Formula.{envelope_height_of}
use Rattle.fade.specs.Formula.{fade_height_of}
use Rattle.filter.specs.Formula.{filter_height_of}
use Rattle.oscillator.specs.Formula.{oscillator_height_of}
use Rattle.noise.specs.Formula.{noise_height_of}
use Rattle.lfo.specs.Formula.{lfo_height_of}
use Rattle.generator.specs.declared.Shape.{Shape}
use Rattle.generator.specs.declared.Shape.TheVariants.{Envelope as AnEnvelope, Fade as AFade, Lfo as AnLfo, Filter as AFilter, Oscillator as AnOscillator, Noise as ANoise}
use Rattle.shape_heights.specs.Heights.{height_of}

abbrev pub is_lfo : Shape → Bool
is_lfo (AnEnvelope e) = false
is_lfo (AFade f) = false
is_lfo (AnLfo l) = true
is_lfo (AFilter f) = false
is_lfo (AnOscillator o) = false
is_lfo (ANoise n) = false

pub no_steps : (s : Shape) → T (not (is_lfo s)) → (t : Float) → (height_of s t).steps ≡ 0
unfolding height_of envelope_height_of fade_height_of filter_height_of oscillator_height_of noise_height_of drawn_of
no_steps (AnEnvelope e) h t = refl
no_steps (AFade f) h t = refl
no_steps (AnLfo l) h t = absurd h
no_steps (AFilter f) h t = refl
no_steps (AnOscillator o) h t = refl
no_steps (ANoise n) h t = refl

pub without_steps : (l : Lfo) (t : Float) → le l.slew zero₃₂ ≡ true → (height_of (AnLfo l) t).steps ≡ 0
unfolding height_of lfo_height_of drawn_of
without_steps l t h = simp h
