-- A SHAPE THAT IS NOT AN LFO'S TAKES NO STEPS, by either engine. Assumes nothing.
use mathlib.Core.Path.{◌≡◌, refl}
use mathlib.Core.Bool.{not}
use Prim.Native.Nat.{ℕ}
use lib.Dec.{T}
use Rattle.settings.specs.declared.Lfo.{Lfo}
use Rattle.generator.specs.declared.Shape.{Shape}
use Rattle.generator.specs.declared.Shape.TheVariants.{Envelope as AnEnvelope, Fade as AFade, Lfo as AnLfo, Filter as AFilter, Oscillator as AnOscillator, Noise as ANoise}
use Rattle.strip.specs.Strip.{step_sum}
use Rattle.strip.proofs.Stepless.{is_lfo, no_steps}
use Rattle.lfo_strip_once.specs.Once.{steps_once}
use Rattle.lfo_strip_once.proofs.Laws.{unwalked}

pub no_lfo : (s : Shape) (n : ℕ) → T (not (is_lfo s)) → step_sum s n n ≡ steps_once s n
no_lfo s n h = unwalked s (no_steps s h) n

-- As a match says of what it has left.
pub other : (s : Shape) → ((l : Lfo) → s ≡ AnLfo l → ⊥) → T (not (is_lfo s))
other (AnEnvelope e) h = tt
other (AFade f) h = tt
other (AnLfo l) h = absurd (h l refl)
other (AFilter f) h = tt
other (AnOscillator o) h = tt
other (ANoise n) h = tt
