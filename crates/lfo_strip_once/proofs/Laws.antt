-- THE STEPS OF ONE WALK: none where no height takes steps, as the plain engine says. As numbers: the last sample lies at 1, so that its phase is the number of turns; 191 full steps fall short of 1 turn, 671 of 6, and 863 of 8. Assumes nothing.
use mathlib.Core.Path.{◌≡◌, refl, sym, ap, ◌∙◌}
use mathlib.Core.Bool.{true, false}
use Prim.Native.Nat.{ℕ, ◌+◌, ◌-◌, ◌≤◌}
use lib.Dec.{lit≤}
use lib.Ieee.{Float, of_bits, of_int, neg, add, mul, div, is_nan, lt, le, eq}
use Rattle.exact.specs.Binary32.{◌⊗◌, bits, zero₃₂, one₃₂}
use Rattle.curve.specs.Curve.{position_of}
use Rattle.math.specs.Formulas.{clamp_of}
use Rattle.settings.specs.declared.LfoShape.{LfoShape}
use Rattle.settings.specs.declared.LfoShape.TheVariants.{Sine, Triangle, Square, RampUp, RampDown, SampleAndHold, SampleAndGlide}
use Rattle.settings.specs.declared.Lfo.{Lfo}
use Rattle.settings.specs.declared.SampledTurns.{SampledTurns}
use Rattle.settings.specs.declared.SampledTurns.TheVariants.{Six, Eight}
use Rattle.settings.specs.Settings.{turns_of, turned_lfo}
use Rattle.walk.specs.Formula.{step_of, place_of, walked_of}
use Rattle.walk.proofs.Steps.{steps_to_place}
use Rattle.lfo.specs.Formula.{lfo_height_of}
use Rattle.generator.specs.declared.Shape.TheVariants.{Lfo as AnLfo}
use Rattle.shape_heights.specs.Heights.{height_of}
use Rattle.generator.specs.declared.Shape.{Shape}
use Rattle.strip.specs.Strip.{sample_of, step_sum}
use Rattle.strip.proofs.Filling.{stepless}
use Rattle.lfo_strip_once.specs.Once.{once_from, steps_once, forward}
use Rattle.lfo_strip_once.proofs.Phases.{last_at_one}

pub unwalked : (s : Shape) → ((t : Float) → (height_of s t).steps ≡ 0) → (n : ℕ) → step_sum s n n ≡ steps_once s n
unfolding steps_once once_from sample_of
unwalked s z n = sym (stepless s z n n) ∙ simp z

-- ---- the turns of every shape go forward
turns_forward : (n : SampledTurns) (s : LfoShape) → forward (turns_of n s) ≡ true
unfolding lt le eq of_bits
turns_forward n Sine = refl
turns_forward n Triangle = refl
turns_forward n Square = refl
turns_forward n RampUp = refl
turns_forward n RampDown = refl
turns_forward Six SampleAndHold = refl
turns_forward Eight SampleAndHold = refl
turns_forward Six SampleAndGlide = refl
turns_forward Eight SampleAndGlide = refl

pub turned_forward : (n : SampledTurns) (l : Lfo) → forward (turned_lfo n l).turns ≡ true
unfolding turned_lfo
turned_forward n l = turns_forward n l.shape

-- ---- the steps as numbers
-- Where the turns are the place of count j, the last sample's walk has j steps.
module _ (l : Lfo) (n : ℕ) (s : le l.slew zero₃₂ ≡ false) (a : 2 ≤ n) (b : n ≤ 4096) where
  last_steps : (j : ℕ) → 96 ≤ j → j ≤ 864 → position_of one₃₂ ⊗ l.turns ≡ place_of j → (sample_of (AnLfo l) n (n - 1)).steps ≡ j
  unfolding sample_of height_of lfo_height_of walked_of
  last_steps j h k e = simp (s, last_at_one n a b, e) (steps_to_place j h k)

  pub one_turn : l.turns ≡ one₃₂ → steps_once (AnLfo l) n ≡ 191 + n
  unfolding steps_once once_from place_of step_of position_of clamp_of is_nan lt of_bits of_int neg add mul div
  one_turn e = simp (last_steps 192 (lit≤ tt) (lit≤ tt) (ap (λ (t : Float). position_of one₃₂ ⊗ t) e ∙ refl))

  pub six_turns : l.turns ≡ bits 0x40c0_0000 → steps_once (AnLfo l) n ≡ 671 + n
  unfolding steps_once once_from place_of step_of position_of clamp_of is_nan lt of_bits of_int neg add mul div
  six_turns e = simp (last_steps 672 (lit≤ tt) (lit≤ tt) (ap (λ (t : Float). position_of one₃₂ ⊗ t) e ∙ refl))

  pub eight_turns : l.turns ≡ bits 0x4100_0000 → steps_once (AnLfo l) n ≡ 863 + n
  unfolding steps_once once_from place_of step_of position_of clamp_of is_nan lt of_bits of_int neg add mul div
  eight_turns e = simp (last_steps 864 (lit≤ tt) (lit≤ tt) (ap (λ (t : Float). position_of one₃₂ ⊗ t) e ∙ refl))
