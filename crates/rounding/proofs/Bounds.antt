-- BOUNDS OF A FRACTION AS BOUNDS IN QUANTA, U of which are 1: what an order of fractions says to the analyser. Assumes nothing.
use mathlib.Core.Path.{◌≡◌}
use Prim.Native.Nat.{ℕ, ◌+◌, ◌*◌, ◌≤◌, ◌<◌}
use native.Mathlib.Nat.{mul-le-mul_right, le_of_mul-le-mul_right}
use native.Mathlib.Omega.{arith}
use lib.IntN.{ℤ, pos, ◌+ℤ◌, ◌*ℤ◌}
use Rattle.exact.specs.Fraction.{Fraction, ratio, whole, ◌+ℚ◌, ◌≤ℚ◌}
use Rattle.exact.proofs.Parts.{part⁺, part⁻, num⁺, num⁻, scale⁺, scale⁻, add_parts, sum_parts}
use Rattle.exact.proofs.Order.{≤ℚ-parts}
use Rattle.rounding.proofs.Analyser.{Lower, Upper}

-- ---- n / d: g quanta with g / U at most, or at least, n / d
pub lower_at : (U : ℕ) (A : Fraction) (n d g : ℕ) → 0 < d → g * d ≤ n * U → ratio n d ≤ℚ A → Lower U A (pos g)
lower_at U A n d g D l h = le_of_mul-le-mul_right (core (num⁺ A) (num⁻ A) A.den (≤ℚ-parts (ratio n d) A h)) D
  where
    core : (P N E : ℕ) → n * E + N * d ≤ P * d + 0 * E → (g * E + N * U) * d ≤ (P * U + 0 * E) * d
    core P N E h = omega (arith, mul-le-mul_right E l, mul-le-mul_right U h)

pub upper_at : (U : ℕ) (A : Fraction) (n d g : ℕ) → 0 < d → n * U ≤ g * d → A ≤ℚ ratio n d → Upper U A (pos g)
upper_at U A n d g D l h = le_of_mul-le-mul_right (core (num⁺ A) (num⁻ A) A.den (≤ℚ-parts A (ratio n d) h)) D
  where
    core : (P N E : ℕ) → P * d + 0 * E ≤ n * E + N * d → (P * U + 0 * E) * d ≤ (g * E + N * U) * d
    core P N E h = omega (arith, mul-le-mul_right E l, mul-le-mul_right U h)

-- the same for a whole number z, and for z + 1
pub lower_whole : (U : ℕ) (A : Fraction) (z : ℤ) → whole z ≤ℚ A → Lower U A (z *ℤ pos U)
lower_whole U A z h = rw (scale⁺ z U, scale⁻ z U) (core (num⁺ A) (num⁻ A) A.den (part⁺ z) (part⁻ z) (≤ℚ-parts (whole z) A h))
  where
    core : (P N D p n : ℕ) → p * D + N * 1 ≤ P * 1 + n * D → p * U * D + N * U ≤ P * U + n * U * D
    core P N D p n h = omega (arith, mul-le-mul_right U h)

pub upper_next : (U : ℕ) (A : Fraction) (z : ℤ) → A ≤ℚ whole z +ℚ whole (pos 1) → Upper U A ((z +ℤ pos 1) *ℤ pos U)
upper_next U A z h =
    let s = whole z +ℚ whole (pos 1) in
    rw (scale⁺ (z +ℤ pos 1) U, scale⁻ (z +ℤ pos 1) U)
    (core (num⁺ A) (num⁻ A) A.den (part⁺ z) (part⁻ z) (num⁺ s) (num⁻ s) (part⁺ (z +ℤ pos 1)) (part⁻ (z +ℤ pos 1)) (sum_parts (whole z) (whole (pos 1))) (add_parts z (pos 1)) (≤ℚ-parts A s h))
  where
    core : (P N D p n S R X Y : ℕ) → S + (n * 1 + 0 * 1) ≡ R + (p * 1 + 1 * 1) → X + (n + 0) ≡ Y + (p + 1) → P * (1 * 1) + R * D ≤ S * D + N * (1 * 1) → P * U + Y * U * D ≤ X * U * D + N * U
    core P N D p n S R X Y i j h = omega (arith, mul-le-mul_right U h, apart (S + (n * 1 + 0 * 1)) (R + (p * 1 + 1 * 1)) i, apart (X + (n + 0)) (Y + (p + 1)) j)
      where
        apart : (x y : ℕ) → x ≡ y → x * (U * D) ≡ y * (U * D)
        apart x y e = rw e
