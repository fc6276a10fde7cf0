-- INEQUALITIES OF FRACTIONS: a term moved across, a factor on both sides, and comparisons of equal fractions. Assumes nothing.
use mathlib.Core.Path.{◌≡◌, refl}
use mathlib.Core.Bool.{Bool, true, false, not}
use Prim.Native.Nat.{ℕ, ◌+◌, ◌*◌, ◌≤◌, ◌<◌}
use native.Mathlib.Nat.{mul-le-mul_right, le_of_lt, not-le_of_lt}
use native.Mathlib.Omega.{arith}
use lib.IntN.{pos, nat_abs}
use lib.Dec.{T}
use Rattle.exact.specs.Fraction.{Fraction, Defined, ratio, absℚ, ◌+ℚ◌, ◌-ℚ◌, ◌*ℚ◌, ◌≤ℚ◌, ltℚ}
use Rattle.exact.specs.Value.{Equal}
use Rattle.exact.proofs.Parts.{num⁺, num⁻, mul⁺, mul⁻, abs_parts, sum_parts, difference_parts}
use Rattle.exact.proofs.Order.{cross, ≤ℚ-parts, parts-≤ℚ, ltℚ_parts, nltℚ_parts, ≤ℚ-trans, equal_at_most, equal_sym}

-- ---- a ≤ c + b gives a - b ≤ c, and c + b ≤ a gives c ≤ a - b
pub minus_at_most : (a b c : Fraction) → Defined b → a ≤ℚ c +ℚ b → a -ℚ b ≤ℚ c
minus_at_most a b c B h =
    parts-≤ℚ (a -ℚ b) c
    (core (num⁺ a) (num⁻ a) a.den (num⁺ b) (num⁻ b) b.den (num⁺ c) (num⁻ c) c.den (num⁺ (a -ℚ b)) (num⁻ (a -ℚ b)) (num⁺ (c +ℚ b)) (num⁻ (c +ℚ b)) B (difference_parts a b) (sum_parts c b) (≤ℚ-parts a (c +ℚ b) h))
  where
    core : (P N D Q M E R L F X Y Z W : ℕ) → 0 < E → X + (N * E + Q * D) ≡ Y + (P * E + M * D) → Z + (L * E + M * F) ≡ W + (R * E + Q * F) → P * (F * E) + W * D ≤ Z * D + N * (F * E)
        → X * F + L * (D * E) ≤ R * (D * E) + Y * F
    core P N D Q M E R L F X Y Z W e i j h = omega (arith, multiplied i, multiplied' j)
      where
        multiplied : X + (N * E + Q * D) ≡ Y + (P * E + M * D) → (X + (N * E + Q * D)) * F ≡ (Y + (P * E + M * D)) * F
        multiplied i = rw i

        multiplied' : Z + (L * E + M * F) ≡ W + (R * E + Q * F) → (Z + (L * E + M * F)) * D ≡ (W + (R * E + Q * F)) * D
        multiplied' j = rw j

pub at_least_minus : (a b c : Fraction) → Defined b → c +ℚ b ≤ℚ a → c ≤ℚ a -ℚ b
at_least_minus a b c B h =
    parts-≤ℚ c (a -ℚ b)
    (core (num⁺ a) (num⁻ a) a.den (num⁺ b) (num⁻ b) b.den (num⁺ c) (num⁻ c) c.den (num⁺ (a -ℚ b)) (num⁻ (a -ℚ b)) (num⁺ (c +ℚ b)) (num⁻ (c +ℚ b)) B (difference_parts a b) (sum_parts c b) (≤ℚ-parts (c +ℚ b) a h))
  where
    core : (P N D Q M E R L F X Y Z W : ℕ) → 0 < E → X + (N * E + Q * D) ≡ Y + (P * E + M * D) → Z + (L * E + M * F) ≡ W + (R * E + Q * F) → Z * D + N * (F * E) ≤ P * (F * E) + W * D
        → R * (D * E) + Y * F ≤ X * F + L * (D * E)
    core P N D Q M E R L F X Y Z W e i j h = omega (arith, multiplied i, multiplied' j)
      where
        multiplied : X + (N * E + Q * D) ≡ Y + (P * E + M * D) → (X + (N * E + Q * D)) * F ≡ (Y + (P * E + M * D)) * F
        multiplied i = rw i

        multiplied' : Z + (L * E + M * F) ≡ W + (R * E + Q * F) → (Z + (L * E + M * F)) * D ≡ (W + (R * E + Q * F)) * D
        multiplied' j = rw j

-- ---- a factor on both sides: a ≤ b gives (n / d) a ≤ (n / d) b
pub scale_le : (n d : ℕ) (a b : Fraction) → a ≤ℚ b → ratio n d *ℚ a ≤ℚ ratio n d *ℚ b
scale_le n d a b h =
    parts-≤ℚ (ratio n d *ℚ a) (ratio n d *ℚ b)
    (core (num⁺ a) (num⁻ a) a.den (num⁺ b) (num⁻ b) b.den (num⁺ (ratio n d *ℚ a)) (num⁻ (ratio n d *ℚ a)) (num⁺ (ratio n d *ℚ b)) (num⁻ (ratio n d *ℚ b))
    (mul⁺ (pos n) a.num) (mul⁻ (pos n) a.num) (mul⁺ (pos n) b.num) (mul⁻ (pos n) b.num) (≤ℚ-parts a b h))
  where
    core : (P N D Q M E X Y Z W : ℕ) → X ≡ n * P + 0 * N → Y ≡ n * N + 0 * P → Z ≡ n * Q + 0 * M → W ≡ n * M + 0 * Q → P * E + M * D ≤ Q * D + N * E → X * (d * E) + W * (d * D) ≤ Z * (d * D) + Y * (d * E)
    core P N D Q M E X Y Z W i j k l h = rw (i, j, k, l) (omega (arith, mul-le-mul_right (n * d) h))

-- 1 ≤ s gives p ≤ s p, for p not negative
pub grows : (s : Fraction) (n d : ℕ) → ratio 1 1 ≤ℚ s → ratio n d ≤ℚ s *ℚ ratio n d
grows s n d h =
    parts-≤ℚ (ratio n d) (s *ℚ ratio n d)
    (core (num⁺ s) (num⁻ s) s.den (num⁺ (s *ℚ ratio n d)) (num⁻ (s *ℚ ratio n d)) (mul⁺ s.num (pos n)) (mul⁻ s.num (pos n)) (≤ℚ-parts (ratio 1 1) s h))
  where
    core : (P N D X Y : ℕ) → X ≡ P * n + N * 0 → Y ≡ P * 0 + N * n → 1 * D + N * 1 ≤ P * 1 + 0 * D → n * (D * d) + Y * d ≤ X * d + 0 * (D * d)
    core P N D X Y i j h = rw (i, j) (omega (arith, mul-le-mul_right (n * d) h))

pub le_abs : (a : Fraction) → a ≤ℚ absℚ a
le_abs a = parts-≤ℚ a (absℚ a) (core (num⁺ a) (num⁻ a) a.den (nat_abs a.num) (abs_parts a.num))
  where
    core : (P N D X : ℕ) → X ≡ P + N → P * D + 0 * D ≤ X * D + N * D
    core P N D X e = rw e (omega arith)

-- ---- equal fractions compare alike
pub lt_le : (a b : Fraction) → T (ltℚ a b) → a ≤ℚ b
lt_le a b t = parts-≤ℚ a b (le_of_lt (ltℚ_parts a b t))

pub nlt_le : (a b : Fraction) → T (not (ltℚ a b)) → b ≤ℚ a
nlt_le a b t = parts-≤ℚ b a (nltℚ_parts a b t)

pub parts_ltℚ : (a b : Fraction) → cross a b < cross b a → T (ltℚ a b)
parts_ltℚ a b h = go (ltℚ a b) (nltℚ_parts a b)
  where
    go : (x : Bool) → (T (not x) → cross b a ≤ cross a b) → T x
    go true k = tt
    go false k = absurd (not-le_of_lt h (k tt))

lt_carries : {a a' b b' : Fraction} → Equal a a' → Equal b b' → T (ltℚ a b) → T (ltℚ a' b')
lt_carries {a} {a'} {b} {b'} e d t = go (ltℚ a' b') (nlt_le a' b')
  where
    go : (x : Bool) → (T (not x) → b' ≤ℚ a') → T x
    go true k = tt
    go false k =
        let h = ≤ℚ-trans b b' a d.right (equal_at_most d).le (≤ℚ-trans b' a' a e.right (k tt) (equal_at_most (equal_sym e)).le) in
        absurd (not-le_of_lt (ltℚ_parts a b t) (≤ℚ-parts b a h))

pub lt_equal : {a a' b b' : Fraction} → Equal a a' → Equal b b' → ltℚ a b ≡ ltℚ a' b'
lt_equal {a} {a'} {b} {b'} e d = go (ltℚ a b) (ltℚ a' b') (lt_carries e d) (lt_carries (equal_sym e) (equal_sym d))
  where
    go : (x y : Bool) → (T x → T y) → (T y → T x) → x ≡ y
    go true true h k = refl
    go false false h k = refl
    go true false h k = absurd (h tt)
    go false true h k = absurd (k tt)
