-- A POWER OF TWO SCALES WITHOUT ROUNDING: x ⊗ 2 ^ i is 2 ^ i times x where that does not overflow, and a whole number over 8 is an eighth of it. Assumes nothing.
use mathlib.Core.Path.{◌≡◌, refl, sym, ap, subst, subst₂, ◌∙◌}
use mathlib.Core.Bool.{Bool, true, false, cond}
use Prim.Native.Nat.{ℕ, zero, suc, ◌+◌, ◌-◌, ◌*◌, ◌^◌, ◌≤◌, ◌<◌}
use native.Mathlib.Nat.{mul-pos, zero-lt-suc, lt_of_le_of_lt, mul-le-mul_right, mul-lt-mul_of_pos_right, le_of_mul-le-mul_right, lt_of_mul-lt-mul_right, eq_of_mul-eq-mul_right, le_trans, le_of_lt}
use native.Mathlib.Omega.{arith}
use lib.IntN.{ℤ, pos}
use lib.Dec.{T, leb, lit<}
use lib.Pow.{pow-add, pow_pos, pow_mono}
use lib.Ieee.{Float, nan, inf, fin, binary32, up, down, of_bits, round, mul, div, unlike, fits}
use lib.Ieee.Fits.{down_pos}
use lib.Ieee.Exact.{HasValue, round_exact}
use lib.Ieee.Scale.{finite}
use borrow.Author.Tests.{leb-true, leb-false}
use Rattle.exact.specs.Fraction.{ratio, whole, signed, ◌*ℚ◌, ◌≤ℚ◌}
use Rattle.exact.specs.Value.{value, Equal}
use Rattle.exact.specs.Binary32.{◌⊗◌, ◌⊘◌}
use Rattle.exact.proofs.Parts.{neg⁺, neg⁻, signed⁺, signed⁻, times⁺, times⁻}
use Rattle.exact.proofs.Defined.{value_defined}
use Rattle.exact.proofs.Order.{≤ℚ-parts, parts_equal, equal_trans, equal⁺, equal⁻}
use Rattle.rounding.proofs.Operations.{Signed}
use Rattle.rounding.proofs.Quanta.{InFormat, in_format}
use Rattle.lfo_shapes.specs.Formula.{eight₃₂}

-- ---- a float is significand * 2 ^ shift quanta in size
sized : (s t : Bool) (a c g U : ℕ) → Signed s a c (cond t 0 g) (cond t g 0) U → a * U ≡ g * c
sized false false a c g U h = omega arith
sized true true a c g U h = omega arith
sized false true a c g U h = omega arith
sized true false a c g U h = omega arith

size : (s : Bool) (m : ℕ) (e : ℤ) (w : InFormat binary32 (fin s m e)) → m * up e * 2 ^ 149 ≡ w.significand * 2 ^ w.shift * down e
size s m e w = sized s w.negative (m * up e) (down e) (w.significand * 2 ^ w.shift) (2 ^ 149) w.quanta

-- a float that has the value ±a / c
pub has_value : (x : Float) (s : Bool) (a c : ℕ) → 0 < c → HasValue x s a c → Equal (value x) (signed s a c)
unfolding value
has_value nan s a c C v = absurd v
has_value (inf t) s a c C v = absurd v
has_value (fin t m e) s a c C v =
    parts_equal (down_pos e) C
    (rw v.0 (rw (signed⁺ s (m * up e), signed⁻ s (m * up e), signed⁺ s a, signed⁻ s a) (go s (m * up e) (down e) v.1)))
  where
    go : (s : Bool) (n d : ℕ) → n * c ≡ a * d → cond s 0 n * c + cond s a 0 * d ≡ cond s 0 a * d + cond s n 0 * c
    go false n d h = omega arith
    go true n d h = omega arith

-- ---- x ⊗ 2 ^ i
plain_sign : (s : Bool) → unlike s false ≡ s
plain_sign false = refl
plain_sign true = refl

times_value : (s : Bool) (m : ℕ) (e : ℤ) (i B : ℕ) → T (fits binary32 (fin s m e)) → m * up e ≤ B * down e → B * 2 ^ i < 2 ^ 128
    → HasValue (round binary32 s (m * up e * (1 * 2 ^ i)) (down e * 1)) s (m * up e * (1 * 2 ^ i)) (down e * 1)
times_value s m e i B f h l =
    let w = in_format binary32 (fin s m e) f tt in
    let k = w.significand in
    let j = w.shift in
    let p : 2 ^ (j + i) ≡ 2 ^ j * 2 ^ i = pow-add 2 j i in
    round_exact binary32 s (m * up e * (1 * 2 ^ i)) (down e * 1) k (j + i) (mul-pos (down_pos e) (zero-lt-suc 0)) w.digits
    (subst (λ (u : ℕ). k * u < 2 ^ 277) (sym p) (room (2 ^ 149) (2 ^ 128) k (2 ^ j) (2 ^ i) (m * up e) (down e) (pow_pos 149) (down_pos e) (size s m e w) h l))
    (subst (λ (u : ℕ). m * up e * (1 * 2 ^ i) * 2 ^ 149 ≡ k * u * (down e * 1)) (sym p) (scaled k (2 ^ j) (2 ^ i) (m * up e) (down e) (2 ^ 149) (size s m e w)))
  where
    scaled : (k a v n d U : ℕ) → n * U ≡ k * a * d → n * (1 * v) * U ≡ k * (a * v) * (d * 1)
    scaled k a v n d U h = omega (arith, ap (λ (x : ℕ). x * v) h)

    below : (w n d U : ℕ) → 0 < d → n * U ≡ w * d → n ≤ B * d → w ≤ B * U
    below w n d U D e h = le_of_mul-le-mul_right (omega (arith, mul-le-mul_right U h)) D

    room : (U T k a v n d : ℕ) → 0 < U → 0 < d → n * U ≡ k * a * d → n ≤ B * d → B * v < T → k * (a * v) < T * U
    room U T k a v n d u D e h l = lt_of_le_of_lt (more U v (below (k * a) n d U D e h)) (mul-lt-mul_of_pos_right l u)
      where
        more : (U v : ℕ) → k * a ≤ B * U → k * (a * v) ≤ B * v * U
        more U v h = omega (arith, mul-le-mul_right v h)

over_one : (s : Bool) (n d v : ℕ) → 0 < d → Equal (signed s (n * (1 * v)) (d * 1)) (ratio v 1 *ℚ signed s n d)
over_one s n d v D =
    parts_equal (mul-pos D (zero-lt-suc 0)) (mul-pos (zero-lt-suc 0) D)
    (rw (signed⁺ s (n * (1 * v)), signed⁻ s (n * (1 * v)), times⁺ v (signed s n d).num, times⁻ v (signed s n d).num, signed⁺ s n, signed⁻ s n) (go s))
  where
    go : (s : Bool) → cond s 0 (n * (1 * v)) * (1 * d) + v * cond s n 0 * (d * 1) ≡ v * cond s 0 n * (d * 1) + cond s (n * (1 * v)) 0 * (1 * d)
    go false = omega arith
    go true = omega arith

bounded : (s : Bool) (n d B : ℕ) → signed s n d ≤ℚ ratio B 1 → ratio 0 1 ≤ℚ signed s n d → n ≤ B * d
bounded false n d B h l = let k = ≤ℚ-parts (signed false n d) (ratio B 1) h in omega arith
bounded true n d B h l = none (subst₂ (λ (p q : ℕ). 0 * d + q * 1 ≤ p * 1 + 0 * d) (neg⁺ (pos n)) (neg⁻ (pos n)) (≤ℚ-parts (ratio 0 1) (signed true n d) l))
  where
    none : 0 * d + n * 1 ≤ 0 * 1 + 0 * d → n ≤ B * d
    none k = omega arith

times_is : (s : Bool) (m : ℕ) (e : ℤ) (i : ℕ) → fin s m e ⊗ fin false 1 (pos i) ≡ round binary32 s (m * up e * (1 * 2 ^ i)) (down e * 1)
unfolding mul
times_is s m e i = ap (λ (b : Bool). round binary32 b (m * up e * (1 * 2 ^ i)) (down e * 1)) (plain_sign s)

-- 2 ^ i times x, for an x from 0 to B
pub times_power : (x : Float) (i B : ℕ) → T (fits binary32 x) → T (finite x) → ratio 0 1 ≤ℚ value x → value x ≤ℚ ratio B 1 → B * 2 ^ i < 2 ^ 128
    → Equal (value (x ⊗ fin false 1 (pos i))) (ratio (2 ^ i) 1 *ℚ value x)
unfolding value
times_power nan i B f t h l r = absurd t
times_power (inf s) i B f t h l r = absurd t
times_power (fin s m e) i B f t h l r =
    let n = m * up e in
    let d = down e in
    subst (λ (y : Float). Equal (value y) (ratio (2 ^ i) 1 *ℚ signed s n d)) (sym (times_is s m e i))
    (equal_trans (has_value (round binary32 s (n * (1 * 2 ^ i)) (d * 1)) s (n * (1 * 2 ^ i)) (d * 1) (mul-pos (down_pos e) (zero-lt-suc 0)) (times_value s m e i B f (bounded s n d B l h) r))
    (over_one s n d (2 ^ i) (down_pos e)))

-- ---- a whole number over 8
-- the size of a float that holds a natural number
pub whole_size : (s : Bool) (m : ℕ) (e : ℤ) (n : ℕ) → Equal (value (fin s m e)) (whole (pos n)) → m * up e ≡ n * down e
unfolding value
whole_size false m e n h = let k = equal⁺ h in omega arith
whole_size true m e n h = both (m * up e) (down e) (subst (λ (p : ℕ). p * 1 ≡ n * down e) (neg⁺ (pos (m * up e))) (equal⁺ h)) (subst (λ (p : ℕ). p * 1 ≡ 0 * down e) (neg⁻ (pos (m * up e))) (equal⁻ h))
  where
    both : (a d : ℕ) → 0 * 1 ≡ n * d → a * 1 ≡ 0 * d → a ≡ n * d
    both a d h k = omega arith

-- in quanta it is significand * 2 ^ shift
whole_quanta : (s : Bool) (m : ℕ) (e : ℤ) (n : ℕ) (w : InFormat binary32 (fin s m e)) → m * up e ≡ n * down e → w.significand * 2 ^ w.shift ≡ n * 2 ^ 149
whole_quanta s m e n w h = same (m * up e) (down e) (2 ^ 149) (w.significand * 2 ^ w.shift) (down_pos e) h (size s m e w)
  where
    same : (a d U g : ℕ) → 0 < d → a ≡ n * d → a * U ≡ g * d → g ≡ n * U
    same a d U g D h i = eq_of_mul-eq-mul_right d D g (n * U) (omega (arith, ap (λ (x : ℕ). x * U) h))

-- and it is below 2 ^ 128
pub whole_limit : (x : Float) (n : ℕ) → T (fits binary32 x) → Equal (value x) (whole (pos n)) → n < 2 ^ 128
whole_limit nan n f h = absurd ((value_defined nan).0 h.left)
whole_limit (inf s) n f h = absurd ((value_defined (inf s)).0 h.left)
whole_limit (fin s m e) n f h =
    let w = in_format binary32 (fin s m e) f tt in
    lt_of_mul-lt-mul_right (2 ^ 149) (subst (λ (g : ℕ). g < 2 ^ 277) (whole_quanta s m e n w (whole_size s m e n h)) w.range)

eighth_value : (s : Bool) (m : ℕ) (e : ℤ) (n : ℕ) → T (fits binary32 (fin s m e)) → m * up e ≡ n * down e
    → HasValue (round binary32 s (m * up e * 1) (1 * 2 ^ 3 * down e)) s (m * up e * 1) (1 * 2 ^ 3 * down e)
eighth_value s m e zero f h =
    round_exact binary32 s (m * up e * 1) (1 * 2 ^ 3 * down e) 0 0 (mul-pos (lit< tt) (down_pos e)) (lit< tt) (lit< tt) (none (m * up e) (down e) (2 ^ 149) h)
  where
    none : (a d U : ℕ) → a ≡ 0 * d → a * 1 * U ≡ 0 * 1 * (8 * d)
    none a d U h = omega (arith, ap (λ (x : ℕ). x * U) h)
eighth_value s m e (suc n) f h = go (leb 3 w.shift) refl
  where
    w : InFormat binary32 (fin s m e)
    w = in_format binary32 (fin s m e) f tt

    is : w.significand * 2 ^ w.shift ≡ suc n * 2 ^ 149
    is = whole_quanta s m e (suc n) w h

    small : (k u : ℕ) → k < 16777216 → u ≤ 8 → k * u ≤ 134217728
    small k u h l = le_trans (mul-le-mul_right u (le_of_lt h)) (omega arith)

    clash : (g U : ℕ) → g ≡ suc n * U → g ≤ 134217728 → 134217728 < U → ⊥
    clash g U h l r = omega arith

    part : (a d U k u : ℕ) → a ≡ suc n * d → k * (u * 8) ≡ suc n * U → a * 1 * U ≡ k * u * (8 * d)
    part a d U k u h i = omega (arith, ap (λ (x : ℕ). x * U) h, ap (λ (x : ℕ). x * d) i)

    less : (k u M : ℕ) → k * (u * 8) < M → k * u < M
    less k u M h = omega arith

    back : (j : ℕ) → 3 ≤ j → j ≡ j - 3 + 3
    back j h = omega arith

    go : (t : Bool) → leb 3 w.shift ≡ t → HasValue (round binary32 s (m * up e * 1) (1 * 2 ^ 3 * down e)) s (m * up e * 1) (1 * 2 ^ 3 * down e)
    go true i =
        let k = w.significand in
        let j = w.shift in
        let p : 2 ^ j ≡ 2 ^ (j - 3) * 8 = ap (λ (x : ℕ). 2 ^ x) (back j (leb-true 3 j i)) ∙ pow-add 2 (j - 3) 3 in
        round_exact binary32 s (m * up e * 1) (1 * 2 ^ 3 * down e) k (j - 3) (mul-pos (lit< tt) (down_pos e)) w.digits
        (less k (2 ^ (j - 3)) (2 ^ 277) (subst (λ (u : ℕ). k * u < 2 ^ 277) p w.range))
        (part (m * up e) (down e) (2 ^ 149) k (2 ^ (j - 3)) h (subst (λ (u : ℕ). k * u ≡ suc n * 2 ^ 149) p is))
    go false i =
        let q : 2 ^ w.shift ≤ 2 ^ 3 = pow_mono (le_of_lt (leb-false 3 w.shift i)) in
        absurd (clash (w.significand * 2 ^ w.shift) (2 ^ 149) is (small w.significand (2 ^ w.shift) w.digits q) (lit< tt))

over_eight : (s : Bool) (a d n : ℕ) → 0 < d → Equal (signed s a d) (whole (pos n)) → Equal (signed s (a * 1) (1 * 2 ^ 3 * d)) (ratio n 8)
over_eight s a d n D h =
    parts_equal (mul-pos (lit< tt) D) (lit< tt)
    (rw (signed⁺ s (a * 1), signed⁻ s (a * 1)) (go s (rw (signed⁺ s a) at (equal⁺ h)) (rw (signed⁻ s a) at (equal⁻ h))))
  where
    go : (s : Bool) → cond s 0 a * 1 ≡ n * d → cond s a 0 * 1 ≡ 0 * d → cond s 0 (a * 1) * 8 + 0 * (8 * d) ≡ n * (8 * d) + cond s (a * 1) 0 * 8
    go false h k = omega arith
    go true h k = omega arith

eighth_is : (s : Bool) (m : ℕ) (e : ℤ) → fin s m e ⊘ eight₃₂ ≡ round binary32 s (m * up e * 1) (1 * 2 ^ 3 * down e)
unfolding div of_bits
eighth_is s m e = ap (λ (b : Bool). round binary32 b (m * up e * 1) (1 * 2 ^ 3 * down e)) (plain_sign s)

pub eighth : (x : Float) (n : ℕ) → T (fits binary32 x) → Equal (value x) (whole (pos n)) → Equal (value (x ⊘ eight₃₂)) (ratio n 8)
eighth nan n f h = absurd ((value_defined nan).0 h.left)
eighth (inf s) n f h = absurd ((value_defined (inf s)).0 h.left)
eighth (fin s m e) n f h =
    subst (λ (y : Float). Equal (value y) (ratio n 8)) (sym (eighth_is s m e))
    (equal_trans (has_value (round binary32 s (m * up e * 1) (1 * 2 ^ 3 * down e)) s (m * up e * 1) (1 * 2 ^ 3 * down e) (mul-pos (lit< tt) (down_pos e)) (eighth_value s m e n f (whole_size s m e n h)))
    (over_eight s (m * up e) (down e) n (down_pos e) (unfold value in h)))
