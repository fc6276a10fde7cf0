-- THE FLOOR IS THE ONLY whole number that is not above a fraction and has it below the next. So equal fractions have one floor, and a fraction less 1 has the
-- floor less 1. Assumes nothing.
use mathlib.Core.Path.{◌≡◌, ap}
use Prim.Native.Nat.{ℕ, suc, ◌+◌, ◌*◌, ◌≤◌, ◌<◌}
use native.Mathlib.Nat.{mul-pos, zero-lt-suc, mul-le-mul_right, mul-lt-mul_of_pos_right, le_of_mul-le-mul_right, lt_of_mul-lt-mul_right}
use native.Mathlib.Omega.{arith}
use lib.Dec.{T}
use lib.IntN.{ℤ, pos, negsuc, ◌-ℤ◌}
use Rattle.exact.specs.Fraction.{Fraction, Defined, whole, floorℚ, ltℚ, ◌+ℚ◌, ◌-ℚ◌, ◌≤ℚ◌}
use Rattle.exact.specs.Value.{Equal}
use Rattle.exact.proofs.Parts.{part⁺, part⁻, num⁺, num⁻, add_parts, sum_parts, difference_parts}
use Rattle.exact.proofs.Order.{≤ℚ-parts, ltℚ_parts, parts-≡ℤ, equal⁺, equal⁻}
use Rattle.exact.proofs.Floor.{floor_below, floor_above}

-- z ≤ a < z + 1, in naturals
pub record Holds (a : Fraction) (z : ℤ) : Type 0 where
  pub low : part⁺ z * a.den + num⁻ a ≤ num⁺ a + part⁻ z * a.den
  pub high : num⁺ a + part⁻ z * a.den < part⁺ z * a.den + a.den + num⁻ a

pub holds : (a : Fraction) (z : ℤ) → whole z ≤ℚ a → T (ltℚ a (whole z +ℚ whole (pos 1))) → Holds a z
holds a z h l =
    let s = whole z +ℚ whole (pos 1) in
    record {
      low = lowest (num⁺ a) (num⁻ a) a.den (part⁺ z) (part⁻ z) (≤ℚ-parts (whole z) a h);
      high = highest (num⁺ a) (num⁻ a) a.den (part⁺ z) (part⁻ z) (num⁺ s) (num⁻ s) (sum_parts (whole z) (whole (pos 1))) (ltℚ_parts a s l);
    }
  where
    lowest : (P N D p n : ℕ) → p * D + N * 1 ≤ P * 1 + n * D → p * D + N ≤ P + n * D
    lowest P N D p n h = omega arith

    highest : (P N D p n S R : ℕ) → S + (n * 1 + 0 * 1) ≡ R + (p * 1 + 1 * 1) → P * (1 * 1) + R * D < S * D + N * (1 * 1) → P + n * D < p * D + D + N
    highest P N D p n S R e h = omega (arith, ap (λ (x : ℕ). x * D) e)

pub floor_holds : (a : Fraction) → Defined a → Holds a (floorℚ a)
floor_holds a d = holds a (floorℚ a) (floor_below a d) (floor_above a d)

pub floor_unique : (a : Fraction) (z : ℤ) → Defined a → Holds a z → floorℚ a ≡ z
floor_unique a z d h =
    let f = floorℚ a in
    let g = floor_holds a d in
    let i = under (num⁺ a) (num⁻ a) a.den (part⁺ f) (part⁻ f) (part⁺ z) (part⁻ z) g.low h.high in
    let j = under (num⁺ a) (num⁻ a) a.den (part⁺ z) (part⁻ z) (part⁺ f) (part⁻ f) h.low g.high in
    parts-≡ℤ f z (same (part⁺ f) (part⁻ f) (part⁺ z) (part⁻ z) i j)
  where
    under : (P N D p n q m : ℕ) → p * D + N ≤ P + n * D → P + m * D < q * D + D + N → p + m < suc (q + n)
    under P N D p n q m h k = lt_of_mul-lt-mul_right D (omega arith)

    same : (p n q m : ℕ) → p + m < suc (q + n) → q + n < suc (p + m) → p + m ≡ q + n
    same p n q m h k = omega arith

pub floor_equal : {a b : Fraction} → Equal a b → floorℚ a ≡ floorℚ b
floor_equal {a} {b} e =
    let g = floor_holds b e.right in
    let z = floorℚ b in
    floor_unique a z e.left
    (record {
      low = low_of (num⁺ a) (num⁻ a) a.den (num⁺ b) (num⁻ b) b.den (part⁺ z) (part⁻ z) e.right (equal⁺ e) (equal⁻ e) g.low;
      high = high_of (num⁺ a) (num⁻ a) a.den (num⁺ b) (num⁻ b) b.den (part⁺ z) (part⁻ z) e.left (equal⁺ e) (equal⁻ e) g.high;
    })
  where
    low_of : (P N D Q M E p n : ℕ) → 0 < E → P * E ≡ Q * D → N * E ≡ M * D → p * E + M ≤ Q + n * E → p * D + N ≤ P + n * D
    low_of P N D Q M E p n e i j h = le_of_mul-le-mul_right (omega (arith, mul-le-mul_right D h)) e

    high_of : (P N D Q M E p n : ℕ) → 0 < D → P * E ≡ Q * D → N * E ≡ M * D → Q + n * E < p * E + E + M → P + n * D < p * D + D + N
    high_of P N D Q M E p n d i j h = lt_of_mul-lt-mul_right E (omega (arith, mul-lt-mul_of_pos_right h d))

-- a - 1
pub floor_less_one : (a : Fraction) → Defined a → floorℚ (a -ℚ whole (pos 1)) ≡ floorℚ a -ℤ pos 1
floor_less_one a d =
    let b = a -ℚ whole (pos 1) in
    let z = floorℚ a in
    let y = z -ℤ pos 1 in
    let g = floor_holds a d in
    floor_unique b y (mul-pos d (zero-lt-suc 0))
    (record {
      low = low_of (num⁺ a) (num⁻ a) a.den (part⁺ z) (part⁻ z) (num⁺ b) (num⁻ b) (part⁺ y) (part⁻ y) (difference_parts a (whole (pos 1))) (add_parts z (negsuc 0)) g.low;
      high = high_of (num⁺ a) (num⁻ a) a.den (part⁺ z) (part⁻ z) (num⁺ b) (num⁻ b) (part⁺ y) (part⁻ y) (difference_parts a (whole (pos 1))) (add_parts z (negsuc 0)) g.high;
    })
  where
    low_of : (P N D p n Q M q m : ℕ) → Q + (N * 1 + 1 * D) ≡ M + (P * 1 + 0 * D) → q + (n + 1) ≡ m + (p + 0) → p * D + N ≤ P + n * D → q * (D * 1) + M ≤ Q + m * (D * 1)
    low_of P N D p n Q M q m i j h = omega (arith, ap (λ (x : ℕ). x * D) j)

    high_of : (P N D p n Q M q m : ℕ) → Q + (N * 1 + 1 * D) ≡ M + (P * 1 + 0 * D) → q + (n + 1) ≡ m + (p + 0) → P + n * D < p * D + D + N → Q + m * (D * 1) < q * (D * 1) + D * 1 + M
    high_of P N D p n Q M q m i j h = omega (arith, ap (λ (x : ℕ). x * D) j)
