-- EVERY SHAPE AT A NUMBER OF TURNS CAN BE SERVED BY ONE WALK. Assumes nothing.
use mathlib.Core.Path.{◌≡◌, refl}
use mathlib.Core.Bool.{true}
use Rattle.settings.specs.declared.SampledTurns.{SampledTurns}
use Rattle.generator.specs.declared.Shape.{Shape}
use Rattle.generator.specs.declared.Shape.TheVariants.{Envelope as AnEnvelope, Fade as AFade, Lfo as AnLfo, Filter as AFilter, Oscillator as AnOscillator, Noise as ANoise}
use Rattle.turns.specs.Turns.{turned_of}
use Rattle.lfo_strip_once.proofs.Laws.{turned_forward}
use Rattle.shape_strip.specs.Forward.{goes_forward}

pub turned_goes : (n : SampledTurns) (s : Shape) → goes_forward (turned_of n s) ≡ true
unfolding goes_forward turned_of
turned_goes n (AnEnvelope e) = refl
turned_goes n (AFade f) = refl
turned_goes n (AnLfo l) = turned_forward n l
turned_goes n (AFilter f) = refl
turned_goes n (AnOscillator o) = refl
turned_goes n (ANoise s) = refl
