-- Two strips are drawn at the same points, a sample at a time. Assumes nothing.
use mathlib.Core.Path.{◌≡◌, refl, sym, ◌∙◌}
use mathlib.Core.Bool.{Bool, true, false, cond}
use mathlib.Core.List.{List}
use mathlib.Core.Logic.{◌⊎◌, inl, inr}
use Prim.Native.Nat.{ℕ, zero, suc, ◌+◌, ◌<◌}
use native.Mathlib.Nat.{eq-or-lt_of_le, le_of_suc-le-suc}
use native.Mathlib.Numerals.{add-one}
use native.Mathlib.Omega.{arith}
use borrow.Author.Tests.{eq-eqb, ne_eqb}
use lib.ListN.{get_or}
use lib.Ieee.{Float, nan}
use Rattle.panel_frame.specs.Frame.{height_units}
use Rattle.older_curve.specs.Older.{same_points}

both_false : (t : Bool) → cond t false false ≡ false
both_false true = refl
both_false false = refl

module _ (old new : List Float) (k : ℕ) {a b : ℕ} (ea : a ≡ height_units (get_or old k nan)) (eb : b ≡ height_units (get_or new k nan)) where
  pub point_same : a ≡ b → same_points old new k ≡ true → same_points old new (k + 1) ≡ true
  unfolding same_points
  point_same e s = rw add-one (simp (eq-eqb _ _ (sym ea ∙ e ∙ eb), s))

  -- a sample at another point decides for all that are more
  pub point_other : (a ≡ b → ⊥) → (n : ℕ) → k < n → same_points old new n ≡ false
  unfolding same_points
  point_other e zero h = absurd (omega arith)
  point_other e (suc n) h = last (λ l. point_other e n l) (eq-or-lt_of_le (le_of_suc-le-suc h))
    where
      last : (k < n → same_points old new n ≡ false) → (k ≡ n) ⊎ (k < n) → same_points old new (suc n) ≡ false
      last earlier (inl q) = rw (← q) (simp (ne_eqb _ _ (λ p. e (ea ∙ p ∙ sym eb))))
      last earlier (inr l) = rw (earlier l) (both_false _)
