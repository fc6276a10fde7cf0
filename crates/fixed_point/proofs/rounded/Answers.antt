-- `rounded` is the quotient. Nothing in it reaches 2 ^ 64: the product is below 2 ^ 56, and so is the power but for 2 ^ 56 itself. Assumes nothing.
use mathlib.Core.Path.{◌≡◌, ap, ◌∙◌}
use Prim.Native.Nat.{ℕ, ◌*◌, ◌%◌, ◌^◌, ◌≤◌, ◌<◌}
use native.Mathlib.Nat.{one-mul, mod-eq_of_lt}
use native.Mathlib.Omega.{arith}
use lib.Pow.{pow_pos, pow_mono}
use Rattle.fixed_point.proofs.Cases.{product_below}
use Rattle.fixed_point.proofs.rounded.Goals as goal

half_most : (s : ℕ) → s ≤ 56 → 2 ^ s ≤ 2 ^ 56
half_most s h = pow_mono h

half_is : (s : ℕ) → s ≤ 56 → 1 * 2 ^ s % 2 ^ 64 ≡ 2 ^ s
half_is s h = let l : 2 ^ s < 2 ^ 64 = omega (arith, half_most s h) in ap (λ (x : ℕ). x % 2 ^ 64) (one-mul (2 ^ s)) ∙ mod-eq_of_lt l

pub overflow_mul-result : goal.overflow_mul-result
overflow_mul-result c = record { fits = omega (arith, product_below _ _ _ _ c.requires.0 c.requires.1) }

pub overflow_mul-result-2 : goal.overflow_mul-result-2
overflow_mul-result-2 c = record { fits = omega (arith, product_below _ _ _ _ c.requires.0 c.requires.1) }

pub overflow_add-result : goal.overflow_add-result
overflow_add-result c = record { fits = omega (arith, product_below _ _ _ _ c.requires.0 c.requires.1, half_is _ c.requires.2, half_most _ c.requires.2) }

pub overflow_mul-result-3 : goal.overflow_mul-result-3
overflow_mul-result-3 c = record { fits = omega (arith, half_is _ c.requires.2, half_most _ c.requires.2) }

pub nonzero_div-result : goal.nonzero_div-result
nonzero_div-result c = omega (arith, half_is _ c.requires.2, pow_pos c.args.shift)

pub returns : goal.returns
returns c = rw (half_is _ c.requires.2)
