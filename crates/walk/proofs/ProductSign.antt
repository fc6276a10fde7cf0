-- PRODUCTS THAT ARE NOT NEGATIVE: of fractions, and of floats, whose rounding keeps the sign. Assumes nothing.
use mathlib.Core.Path.{◌≡◌, ap, subst₂}
use mathlib.Core.Bool.{Bool, true, false, cond}
use Prim.Native.Nat.{ℕ, ◌+◌, ◌*◌, ◌^◌, ◌≤◌, ◌<◌}
use native.Mathlib.Nat.{mul-pos, mul-le-mul_right, le_of_mul-le-mul_right}
use native.Mathlib.Omega.{arith}
use lib.IntN.{pos}
use lib.Dec.{T, eqb}
use lib.Pow.{pow_pos}
use lib.Ieee.{Float, nan, inf, fin, Format, prec, low, up, down, round, unlike, mul}
use lib.Ieee.Fits.{down_pos}
use lib.Ieee.Scale.{finite, grid}
use Rattle.exact.specs.Fraction.{Fraction, ratio, signed, ◌*ℚ◌, ◌≤ℚ◌}
use Rattle.exact.specs.Value.{value}
use Rattle.exact.proofs.Parts.{num⁺, num⁻, neg⁺, neg⁻, mul⁺, mul⁻}
use Rattle.exact.proofs.Order.{≤ℚ-parts, parts-≤ℚ}
use Rattle.rounding.proofs.UnitRoundoff.{neither}
use Rattle.rounding.proofs.Quanta.{quanta_value}
use Rattle.rounding.proofs.Operations.{of_value}
use Rattle.rounding.proofs.Rounding.{round_value}
use Rattle.rounding.proofs.RoundingTheorems.{round_finite, whole_relative}
use Rattle.rounding.proofs.Signs.{nonnegative}

-- ---- fractions
pub product_nonnegative : (a b : Fraction) → ratio 0 1 ≤ℚ a → ratio 0 1 ≤ℚ b → ratio 0 1 ≤ℚ a *ℚ b
product_nonnegative a b h k =
    parts-≤ℚ (ratio 0 1) (a *ℚ b) (rw (mul⁺ a.num b.num, mul⁻ a.num b.num) (core (num⁺ a) (num⁻ a) a.den (num⁺ b) (num⁻ b) b.den (nonnegative a h) (nonnegative b k)))
  where
    core : (P N D Q M E : ℕ) → N ≡ 0 → M ≡ 0 → 0 * (D * E) + (P * M + N * Q) * 1 ≤ (P * Q + N * M) * 1 + 0 * (D * E)
    core P N D Q M E i j = rw (i, j) (omega arith)

pub product_at_most : (a b : Fraction) (n d m e : ℕ) → ratio 0 1 ≤ℚ a → ratio 0 1 ≤ℚ b → a ≤ℚ ratio n d → b ≤ℚ ratio m e → a *ℚ b ≤ℚ ratio (n * m) (d * e)
product_at_most a b n d m e h k i j =
    parts-≤ℚ (a *ℚ b) (ratio (n * m) (d * e))
    (rw (mul⁺ a.num b.num, mul⁻ a.num b.num)
    (core (num⁺ a) (num⁻ a) a.den (num⁺ b) (num⁻ b) b.den (nonnegative a h) (nonnegative b k) (≤ℚ-parts a (ratio n d) i) (≤ℚ-parts b (ratio m e) j)))
  where
    core : (P N D Q M E : ℕ) → N ≡ 0 → M ≡ 0 → P * d + 0 * D ≤ n * D + N * d → Q * e + 0 * E ≤ m * E + M * e
        → (P * Q + N * M) * (d * e) + 0 * (D * E) ≤ n * m * (D * E) + (P * M + N * Q) * (d * e)
    core P N D Q M E z y u v = rw (z, y) (chain (simp z at u) (simp y at v))
      where
        chain : P * d + 0 * D ≤ n * D + 0 * d → Q * e + 0 * E ≤ m * E + 0 * e → (P * Q + 0 * 0) * (d * e) + 0 * (D * E) ≤ n * m * (D * E) + (P * 0 + 0 * Q) * (d * e)
        chain u v =
            let s : P * d * (Q * e) ≤ n * D * (Q * e) = mul-le-mul_right (Q * e) (omega arith) in
            let t : Q * e * (n * D) ≤ m * E * (n * D) = mul-le-mul_right (n * D) (omega arith) in
            omega arith

-- ---- floats
-- ±g quanta, g being 0 under the sign
no_less : (U : ℕ) (z : Float) (s : Bool) (g : ℕ) → 0 < U → (T s → g ≡ 0) → num⁺ (value z) * U + cond s g 0 * (value z).den ≡ num⁻ (value z) * U + cond s 0 g * (value z).den → ratio 0 1 ≤ℚ value z
no_less U z s g P k h = parts-≤ℚ (ratio 0 1) (value z) (core (num⁺ (value z)) (num⁻ (value z)) (value z).den (go s k h))
  where
    core : (P N D : ℕ) → N ≤ P → 0 * D + N * 1 ≤ P * 1 + 0 * D
    core P N D h = omega arith

    go : (s : Bool) → (T s → g ≡ 0) → num⁺ (value z) * U + cond s g 0 * (value z).den ≡ num⁻ (value z) * U + cond s 0 g * (value z).den → num⁻ (value z) ≤ num⁺ (value z)
    go false k h = le_of_mul-le-mul_right (plain (num⁺ (value z)) (num⁻ (value z)) (value z).den h) P
      where
        plain : (P N D : ℕ) → P * U + 0 * D ≡ N * U + g * D → N * U ≤ P * U
        plain P N D h = omega arith
    go true k h = le_of_mul-le-mul_right (plain (num⁺ (value z)) (num⁻ (value z)) (value z).den (k tt) h) P
      where
        plain : (P N D : ℕ) → g ≡ 0 → P * U + g * D ≡ N * U + 0 * D → N * U ≤ P * U
        plain P N D e h = omega (arith, ap (λ (x : ℕ). x * D) e)

rounded_nonnegative : (f : Format) (s : Bool) (a c : ℕ) → 0 < c → (T s → a ≡ 0) → T (finite (round f s a c)) → ratio 0 1 ≤ℚ value (round f s a c)
rounded_nonnegative f s a c C k t =
    let U = 2 ^ low f in
    let z = round f s a c in
    let g = grid f a c in
    no_less U z s g (pow_pos (low f)) (λ h. nought (k h)) (quanta_value U z (cond s 0 g) (cond s g 0) (of_value z s g U (round_value f s a c (round_finite f s a c t))))
  where
    nought : a ≡ 0 → grid f a c ≡ 0
    nought e = last (grid f a c) (2 ^ prec f) (pow_pos (prec f)) (whole_relative f a c 0 C (flat a c (2 ^ low f) e)).le
      where
        flat : (a c U : ℕ) → a ≡ 0 → a * U ≡ 0 * c
        flat a c U e = omega (arith, ap (λ (x : ℕ). x * U) e)

        last : (g P : ℕ) → 0 < P → g * P ≤ 0 * P + 0 → g ≡ 0
        last g P o h = let l : g ≤ 0 = le_of_mul-le-mul_right {m = g} {n = 0} (omega arith) o in omega arith

negative_zero : (a d : ℕ) → ratio 0 1 ≤ℚ signed true a d → a ≡ 0
negative_zero a d h = none a d (subst₂ (λ (p q : ℕ). 0 * d + q * 1 ≤ p * 1 + 0 * d) (neg⁺ (pos a)) (neg⁻ (pos a)) (≤ℚ-parts (ratio 0 1) (signed true a d) h))
  where
    none : (a d : ℕ) → 0 * d + a * 1 ≤ 0 * 1 + 0 * d → a ≡ 0
    none a d h = omega arith

pub mul_nonnegative : (f : Format) (x y : Float) → T (finite (mul f x y)) → ratio 0 1 ≤ℚ value x → ratio 0 1 ≤ℚ value y → ratio 0 1 ≤ℚ value (mul f x y)
unfolding mul
mul_nonnegative f nan y t h k = absurd t
mul_nonnegative f (inf s) nan t h k = absurd t
mul_nonnegative f (inf s) (inf r) t h k = absurd t
mul_nonnegative f (inf s) (fin r n d) t h k = absurd (neither (eqb n 0) (unlike s r) t)
mul_nonnegative f (fin s m e) nan t h k = absurd t
mul_nonnegative f (fin s m e) (inf r) t h k = absurd (neither (eqb m 0) (unlike s r) t)
mul_nonnegative f (fin s m e) (fin r n d) t h k =
    let a = m * up e in
    let b = n * up d in
    rounded_nonnegative f (unlike s r) (a * b) (down e * down d) (mul-pos (down_pos e) (down_pos d)) (go s r (unfold value in h) (unfold value in k)) t
  where
    left : (a b : ℕ) → a ≡ 0 → a * b ≡ 0
    left a b e = omega (arith, ap (λ (x : ℕ). x * b) e)

    right : (a b : ℕ) → b ≡ 0 → a * b ≡ 0
    right a b e = omega (arith, ap (λ (x : ℕ). x * a) e)

    go : (s r : Bool) → ratio 0 1 ≤ℚ signed s (m * up e) (down e) → ratio 0 1 ≤ℚ signed r (n * up d) (down d) → T (unlike s r) → m * up e * (n * up d) ≡ 0
    go false false h k u = absurd u
    go true true h k u = absurd u
    go true false h k u = left (m * up e) (n * up d) (negative_zero (m * up e) (down e) h)
    go false true h k u = right (m * up e) (n * up d) (negative_zero (n * up d) (down d) k)
