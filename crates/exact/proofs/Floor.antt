-- THE FLOOR OF A FRACTION is a whole number that is not above it, and has it below the next one. Assumes nothing.
use mathlib.Core.Path.{◌≡◌}
use Prim.Native.Nat.{ℕ, ◌+◌, ◌*◌, ◌≤◌, ◌<◌}
use native.Mathlib.Nat.{div-add-mod', mod-lt}
use native.Mathlib.Omega.{arith}
use lib.Dec.{T}
use lib.IntN.{ℤ, pos, negsuc}
use Rattle.exact.specs.Fraction.{Fraction, Defined, whole, floor_over, floorℚ, ltℚ, ◌+ℚ◌, ◌≤ℚ◌}
use Rattle.exact.proofs.Parts.{part⁺, part⁻, num⁺, num⁻, sum_parts}
use Rattle.exact.proofs.Order.{parts-≤ℚ}
use Rattle.exact.proofs.Inequality.{parts_ltℚ}

-- n = (n / d) d + n % d, with n % d below d
below : (n : ℤ) (d : ℕ) → 0 < d → part⁺ (floor_over n d) * d + part⁻ n * 1 ≤ part⁺ n * 1 + part⁻ (floor_over n d) * d
below (pos n) d D = omega (arith, div-add-mod' n d)
below (negsuc n) d D = omega (arith, div-add-mod' n d, mod-lt n D)

above : (n : ℤ) (d : ℕ) → 0 < d → part⁺ n + part⁻ (floor_over n d) * d < part⁺ (floor_over n d) * d + d + part⁻ n
above (pos n) d D = omega (arith, div-add-mod' n d, mod-lt n D)
above (negsuc n) d D = omega (arith, div-add-mod' n d)

pub floor_below : (a : Fraction) → Defined a → whole (floorℚ a) ≤ℚ a
floor_below a D = parts-≤ℚ (whole (floorℚ a)) a (below a.num a.den D)

pub floor_above : (a : Fraction) → Defined a → T (ltℚ a (whole (floorℚ a) +ℚ whole (pos 1)))
floor_above a D =
    let z = floorℚ a in
    let s = whole z +ℚ whole (pos 1) in
    parts_ltℚ a s (next (num⁺ a) (num⁻ a) a.den (part⁺ z) (part⁻ z) (num⁺ s) (num⁻ s) (sum_parts (whole z) (whole (pos 1))) (above a.num a.den D))
  where
    next : (P N D p n S R : ℕ) → S + (n * 1 + 0 * 1) ≡ R + (p * 1 + 1 * 1) → P + n * D < p * D + D + N → P * (1 * 1) + R * D < S * D + N * (1 * 1)
    next P N D p n S R e h = omega (arith, multiplied e)
      where
        multiplied : S + (n * 1 + 0 * 1) ≡ R + (p * 1 + 1 * 1) → (S + (n * 1 + 0 * 1)) * D ≡ (R + (p * 1 + 1 * 1)) * D
        multiplied e = rw e
