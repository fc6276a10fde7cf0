-- SIGNS OF FRACTIONS: of differences, of what is relatively near a number, and of quotients, with the quotients that are at most 1. Each is an inequality between naturals,
-- multiplied across. Assumes nothing.
use mathlib.Core.Path.{◌≡◌, sym, ap, subst}
use Prim.Native.Nat.{ℕ, suc, ◌+◌, ◌*◌, ◌≤◌, ◌<◌}
use native.Mathlib.Nat.{mul-pos, mul-le-mul_right, le_of_mul-le-mul_right, lt_of_mul-lt-mul_right}
use native.Mathlib.Omega.{arith}
use lib.IntN.{ℤ, pos, negsuc, nat_abs, ◌*ℤ◌}
use lib.Dec.{T}
use lib.Ieee.{le}
use Rattle.exact.specs.Fraction.{Fraction, Defined, ratio, absℚ, over, ◌-ℚ◌, ◌/ℚ◌, ◌≤ℚ◌, ltℚ}
use Rattle.exact.specs.Value.{RelativelyWithin}
use Rattle.exact.proofs.Close.{ring}
use Rattle.exact.proofs.Parts.{part⁺, part⁻, num⁺, num⁻, scale⁺, scale⁻, abs_parts, OneSided, up, down, one_sided, difference_parts}
use Rattle.exact.proofs.Order.{≤ℚ-parts, parts-≤ℚ, ltℚ_parts}
use Rattle.exact.proofs.Inequality.{parts_ltℚ}
use Rattle.rounding.proofs.Relative.{Relatively, relative_across, over_positive, negated}

-- ---- a fraction above 0
abbrev pub Positive : Fraction → Type 0
Positive a = T (ltℚ (ratio 0 1) a)

pub positive_parts : (a : Fraction) → Positive a → num⁻ a < num⁺ a
positive_parts a h = core (num⁺ a) (num⁻ a) a.den (ltℚ_parts (ratio 0 1) a h)
  where
    core : (P N D : ℕ) → 0 * D + N * 1 < P * 1 + 0 * D → N < P
    core P N D h = omega arith

pub parts_positive : (a : Fraction) → num⁻ a < num⁺ a → Positive a
parts_positive a h = parts_ltℚ (ratio 0 1) a (core (num⁺ a) (num⁻ a) a.den h)
  where
    core : (P N D : ℕ) → N < P → 0 * D + N * 1 < P * 1 + 0 * D
    core P N D h = omega arith

pub positive_abs : (a : Fraction) → Positive a → 0 < nat_abs a.num
positive_abs a h = core (num⁺ a) (num⁻ a) (nat_abs a.num) (positive_parts a h) (abs_parts a.num)
  where
    core : (P N z : ℕ) → N < P → z ≡ P + N → 0 < z
    core P N z h e = omega arith

-- ---- a fraction that is not negative has no negative part
pub nonnegative : (a : Fraction) → ratio 0 1 ≤ℚ a → num⁻ a ≡ 0
nonnegative a h = core (num⁺ a) (num⁻ a) a.den (one_sided a.num) (≤ℚ-parts (ratio 0 1) a h)
  where
    core : (P N D : ℕ) → OneSided P N → 0 * D + N * 1 ≤ P * 1 + 0 * D → N ≡ 0
    core P N D (up e) h = e
    core P N D (down e) h = omega arith

pub abs_at_most : (a b : Fraction) → ratio 0 1 ≤ℚ a → a ≤ℚ b → absℚ a ≤ℚ b
abs_at_most a b h k =
    parts-≤ℚ (absℚ a) b (core (num⁺ a) (num⁻ a) a.den (num⁺ b) (num⁻ b) b.den (nat_abs a.num) (abs_parts a.num) (nonnegative a h) (≤ℚ-parts a b k))
  where
    core : (P N D Q M E z : ℕ) → z ≡ P + N → N ≡ 0 → P * E + M * D ≤ Q * D + N * E → z * E + M * D ≤ Q * D + 0 * E
    core P N D Q M E z e i h = omega (arith, ap (λ (x : ℕ). x * E) e, ap (λ (x : ℕ). x * E) i)

-- ---- differences
pub difference_positive : (a b : Fraction) → T (ltℚ b a) → Positive (a -ℚ b)
difference_positive a b h =
    parts_positive (a -ℚ b)
    (core (num⁺ a) (num⁻ a) a.den (num⁺ b) (num⁻ b) b.den (num⁺ (a -ℚ b)) (num⁻ (a -ℚ b)) (difference_parts a b) (ltℚ_parts b a h))
  where
    core : (P N D Q M E X Y : ℕ) → X + (N * E + Q * D) ≡ Y + (P * E + M * D) → Q * D + N * E < P * E + M * D → Y < X
    core P N D Q M E X Y e h = omega arith

pub difference_nonnegative : (a b : Fraction) → b ≤ℚ a → ratio 0 1 ≤ℚ a -ℚ b
difference_nonnegative a b h =
    parts-≤ℚ (ratio 0 1) (a -ℚ b)
    (core (num⁺ a) (num⁻ a) a.den (num⁺ b) (num⁻ b) b.den (num⁺ (a -ℚ b)) (num⁻ (a -ℚ b)) (difference_parts a b) (≤ℚ-parts b a h))
  where
    core : (P N D Q M E X Y : ℕ) → X + (N * E + Q * D) ≡ Y + (P * E + M * D) → Q * D + N * E ≤ P * E + M * D → 0 * (D * E) + Y * 1 ≤ X * 1 + 0 * (D * E)
    core P N D Q M E X Y e h = omega arith

pub difference_nonpositive : (a b : Fraction) → a ≤ℚ b → a -ℚ b ≤ℚ ratio 0 1
difference_nonpositive a b h =
    parts-≤ℚ (a -ℚ b) (ratio 0 1)
    (core (num⁺ a) (num⁻ a) a.den (num⁺ b) (num⁻ b) b.den (num⁺ (a -ℚ b)) (num⁻ (a -ℚ b)) (difference_parts a b) (≤ℚ-parts a b h))
  where
    core : (P N D Q M E X Y : ℕ) → X + (N * E + Q * D) ≡ Y + (P * E + M * D) → P * E + M * D ≤ Q * D + N * E → X * 1 + 0 * (D * E) ≤ 0 * (D * E) + Y * 1
    core P N D Q M E X Y e h = omega arith

-- a ≤ b gives a - c ≤ b - c
pub difference_monotone : (a b c : Fraction) → a ≤ℚ b → a -ℚ c ≤ℚ b -ℚ c
difference_monotone a b c h =
    parts-≤ℚ (a -ℚ c) (b -ℚ c)
    (core (num⁺ a) (num⁻ a) a.den (num⁺ b) (num⁻ b) b.den (num⁺ c) (num⁻ c) c.den (num⁺ (a -ℚ c)) (num⁻ (a -ℚ c)) (num⁺ (b -ℚ c)) (num⁻ (b -ℚ c)) (difference_parts a c) (difference_parts b c) (≤ℚ-parts a b h))
  where
    core : (P N D Q M E R L F X Y Z W : ℕ) → X + (N * F + R * D) ≡ Y + (P * F + L * D) → Z + (M * F + R * E) ≡ W + (Q * F + L * E) → P * E + M * D ≤ Q * D + N * E
        → X * (E * F) + W * (D * F) ≤ Z * (D * F) + Y * (E * F)
    core P N D Q M E R L F X Y Z W i j h =
        simp ring
        (omega (
          arith,
          simp ring at (ap (λ (x : ℕ). x * (E * F)) i),
          simp ring at (ap (λ (x : ℕ). x * (D * F)) j),
          simp ring at (mul-le-mul_right (F * F) h),
        ))

-- ---- what is relatively near a number has its sign
same_sign : (p n d P N D r s : ℕ) → 0 < D → 0 < s → r ≤ s → OneSided P N → P ≤ N → Relatively p n d P N D r s → p ≤ n
same_sign p n d P N D r s E S l o h k = le_of_mul-le-mul_right {m = p} {n = n} (core (none o)) (mul-pos E S)
  where
    none : OneSided P N → P ≡ 0
    none (up e) = omega arith
    none (down e) = e

    core : P ≡ 0 → p * (D * s) ≤ n * (D * s)
    core e = omega (arith, k.le, mul-le-mul_right (N * d) l, ap (λ (x : ℕ). x * (d * s)) e, ap (λ (x : ℕ). x * (d * r)) e)

turned : {p n : ℕ} → OneSided p n → OneSided n p
turned (up e) = down e
turned (down e) = up e

pub relative_nonpositive : (a b : Fraction) (r s : ℕ) → 0 < s → r ≤ s → RelativelyWithin a b (ratio r s) → b ≤ℚ ratio 0 1 → a ≤ℚ ratio 0 1
relative_nonpositive a b r s S l h k =
    parts-≤ℚ a (ratio 0 1)
    (out (num⁺ a) (num⁻ a) a.den
    (same_sign (num⁺ a) (num⁻ a) a.den (num⁺ b) (num⁻ b) b.den r s h.right S l (one_sided b.num) (into (num⁺ b) (num⁻ b) b.den (≤ℚ-parts b (ratio 0 1) k)) (relative_across a b r s h)))
  where
    into : (P N D : ℕ) → P * 1 + 0 * D ≤ 0 * D + N * 1 → P ≤ N
    into P N D h = omega arith

    out : (P N D : ℕ) → P ≤ N → P * 1 + 0 * D ≤ 0 * D + N * 1
    out P N D h = omega arith

pub relative_nonnegative : (a b : Fraction) (r s : ℕ) → 0 < s → r ≤ s → RelativelyWithin a b (ratio r s) → ratio 0 1 ≤ℚ b → ratio 0 1 ≤ℚ a
relative_nonnegative a b r s S l h k =
    parts-≤ℚ (ratio 0 1) a
    (out (num⁺ a) (num⁻ a) a.den
    (same_sign (num⁻ a) (num⁺ a) a.den (num⁻ b) (num⁺ b) b.den r s h.right S l (turned (one_sided b.num)) (into (num⁺ b) (num⁻ b) b.den (≤ℚ-parts (ratio 0 1) b k))
    (negated (num⁺ a) (num⁻ a) a.den (num⁺ b) (num⁻ b) b.den r s (relative_across a b r s h))))
  where
    into : (P N D : ℕ) → 0 * D + N * 1 ≤ P * 1 + 0 * D → N ≤ P
    into P N D h = omega arith

    out : (P N D : ℕ) → N ≤ P → 0 * D + N * 1 ≤ P * 1 + 0 * D
    out P N D h = omega arith

pub relative_positive : (a b : Fraction) (r s : ℕ) → r < s → RelativelyWithin a b (ratio r s) → Positive b → Positive a
relative_positive a b r s l h k =
    parts_positive a (core (num⁺ a) (num⁻ a) a.den (num⁺ b) (num⁻ b) b.den h.left (one_sided b.num) (positive_parts b k) (relative_across a b r s h))
  where
    core : (p n d P N D : ℕ) → 0 < d → OneSided P N → N < P → Relatively p n d P N D r s → n < p
    core p n d P N D E (down e) o k = absurd (none o e)
      where
        none : N < P → P ≡ 0 → ⊥
        none o e = omega arith
    core p n d P N D E (up e) o k =
        lt_of_mul-lt-mul_right (D * s)
        (last (mul-pos {m = P} {n = d} (omega arith) E) (mul-le-mul_right (P * d) l) (ap (λ (x : ℕ). x * (d * s)) e) (ap (λ (x : ℕ). x * (d * r)) e))
      where
        last : 0 < P * d → suc r * (P * d) ≤ s * (P * d) → N * (d * s) ≡ 0 * (d * s) → N * (d * r) ≡ 0 * (d * r) → n * (D * s) < p * (D * s)
        last o l i j = omega (arith, k.ge)

-- ---- a quotient by a number above 0: 0 ≤ a gives 0 ≤ a / b, and a ≤ b gives a / b ≤ 1
-- the quotient's parts
abbrev Quotient : Fraction → ℕ → ℕ → Fraction
Quotient a n d = record { num = a.num *ℤ pos d; den = a.den * n }

quotient_is : (a : Fraction) (z : ℤ) (d : ℕ) (F : Fraction → Type 0) → 0 < d → part⁻ z < part⁺ z → F (Quotient a (part⁺ z) d) → F (over a z d)
quotient_is a (pos n) d F D h k = subst F (sym (over_positive a n d D)) k
quotient_is a (negsuc n) d F D h k = absurd (none n h)
  where
    none : (n : ℕ) → suc n < 0 → ⊥
    none n h = omega arith

pub quotient_nonnegative : (a b : Fraction) → Defined b → Positive b → ratio 0 1 ≤ℚ a → ratio 0 1 ≤ℚ a /ℚ b
quotient_nonnegative a b D p h =
    quotient_is a b.num b.den (λ (x : Fraction). ratio 0 1 ≤ℚ x) D (positive_parts b p)
    (parts-≤ℚ (ratio 0 1) (Quotient a (num⁺ b) b.den)
    (rw (scale⁺ a.num b.den, scale⁻ a.num b.den) (core (num⁺ a) (num⁻ a) a.den (num⁺ b) b.den (≤ℚ-parts (ratio 0 1) a h))))
  where
    core : (P N D Q E : ℕ) → 0 * D + N * 1 ≤ P * 1 + 0 * D → 0 * (D * Q) + N * E * 1 ≤ P * E * 1 + 0 * (D * Q)
    core P N D Q E h = omega (arith, mul-le-mul_right E h)

pub quotient_at_most_one : (a b : Fraction) → Defined b → Positive b → a ≤ℚ b → a /ℚ b ≤ℚ ratio 1 1
quotient_at_most_one a b D p h =
    quotient_is a b.num b.den (λ (x : Fraction). x ≤ℚ ratio 1 1) D (positive_parts b p)
    (parts-≤ℚ (Quotient a (num⁺ b) b.den) (ratio 1 1)
    (rw (scale⁺ a.num b.den, scale⁻ a.num b.den) (core (num⁺ a) (num⁻ a) a.den (num⁺ b) (num⁻ b) b.den (≤ℚ-parts a b h))))
  where
    core : (P N D Q M E : ℕ) → P * E + M * D ≤ Q * D + N * E → P * E * 1 + 0 * (D * Q) ≤ 1 * (D * Q) + N * E * 1
    core P N D Q M E h = omega arith
