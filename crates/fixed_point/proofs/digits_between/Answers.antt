-- `digits_between` tests the products. Nothing in it reaches 2 ^ 64: the units are below 2 ^ 56, and the power is at most that. Assumes nothing.
use mathlib.Core.Path.{◌≡◌, ap, ◌∙◌}
use Prim.Native.Nat.{ℕ, ◌*◌, ◌%◌, ◌^◌, ◌≤◌, ◌<◌}
use native.Mathlib.Nat.{one-mul, mod-eq_of_lt}
use native.Mathlib.Omega.{arith}
use lib.Pow.{pow_pos, pow_mono}
use Rattle.fixed_point.proofs.Marks.{low_missed, low_met, high_passed, high_met}
use Rattle.fixed_point.proofs.digits_between.Goals as goal

one_most : (s : ℕ) → s ≤ 56 → 2 ^ s ≤ 2 ^ 56
one_most s h = pow_mono h

one_is : (s : ℕ) → s ≤ 56 → 1 * 2 ^ s % 2 ^ 64 ≡ 2 ^ s
one_is s h = let l : 2 ^ s < 2 ^ 64 = omega (arith, one_most s h) in ap (λ (x : ℕ). x % 2 ^ 64) (one-mul (2 ^ s)) ∙ mod-eq_of_lt l

pub nonzero_div-units : goal.nonzero_div-units
nonzero_div-units c = omega (arith, one_is _ c.requires.1, pow_pos c.args.shift)

pub overflow_sub-one : goal.overflow_sub-one
overflow_sub-one c = omega (arith, one_is _ c.requires.1, pow_pos c.args.shift)

pub nonzero_div-units-2 : goal.nonzero_div-units-2
nonzero_div-units-2 c = omega (arith, one_is _ c.requires.1, pow_pos c.args.shift)

pub returns-then-units-one : goal.returns-then-units-one
returns-then-units-one c = simp (low_missed _ _ _ (pow_pos c.args.shift) (simp (one_is _ c.requires.1) at c.if-units-one.true))

pub returns-then-high-units : goal.returns-then-high-units
returns-then-high-units c =
    simp
    (low_met _ _ _ (pow_pos c.args.shift) (simp (one_is _ c.requires.1) at c.if-units-one.false), high_passed _ _ _ (pow_pos c.args.shift) (simp (one_is _ c.requires.1) at c.if-high-units.true))

pub returns : goal.returns
returns c =
    simp
    (low_met _ _ _ (pow_pos c.args.shift) (simp (one_is _ c.requires.1) at c.if-units-one.false), high_met _ _ _ (pow_pos c.args.shift) (simp (one_is _ c.requires.1) at c.if-high-units.false))
