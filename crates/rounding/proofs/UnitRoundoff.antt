-- EACH OPERATION IS WITHIN THE UNIT ROUNDOFF 2 ^ -prec f OF ITS EXACT RESULT, as a relative distance between fractions. A sum or a difference of floats of
-- the format is so with no more said, since it is a whole number of quanta; a product or a quotient may underflow, and then is within half a quantum
-- more. The exact result is put as ±a / c, which `round` is given, and the rounding theorems say the rest. Where a result is finite, so are its
-- operands (but a divisor may be an infinity) and a divisor is not zero. All over the format. Assumes nothing.
use mathlib.Core.Path.{◌≡◌, refl, sym, ap, subst, ◌∙◌}
use mathlib.Core.Bool.{Bool, true, false, not, cond}
use Prim.Native.Nat.{ℕ, zero, suc, ◌+◌, ◌*◌, ◌^◌, ◌<◌}
use native.Mathlib.Nat.{lt_irrefl, zero-lt-suc, mul-pos, mul_comm}
use native.Mathlib.Omega.{arith}
use lib.IntN.{ℤ, pos, neg_ℤ, neg_ℤ-neg_ℤ, ◌*ℤ◌}
use lib.Dec.{T, eqb}
use lib.Pow.{pow_pos}
use lib.Ieee.{Float, nan, inf, fin, Format, prec, low, up, down, unlike, round, neg, add, sub, mul, div, fits}
use lib.Ieee.Fits.{down_pos, up_pos, neg-fits}
use lib.Ieee.Scale.{finite}
use Rattle.exact.specs.Fraction.{Fraction, ratio, absℚ, negℚ, ◌+ℚ◌, ◌-ℚ◌, ◌*ℚ◌, ◌/ℚ◌, signed}
use Rattle.exact.specs.Value.{value, Within, RelativelyWithin}
use Rattle.exact.proofs.Close.{Split, less, more, split}
use Rattle.exact.proofs.Parts.{mul⁺, mul⁻, neg⁺, neg⁻, scale⁺, scale⁻, signed⁺, signed⁻}
use Rattle.rounding.proofs.Operations.{Signed, add_is}
use Rattle.rounding.proofs.Quanta.{signed_quanta, quanta_of, quanta_value, sum_quanta, same_quanta}
use Rattle.exact.proofs.Defined.{value_defined}
use Rattle.exact.proofs.Order.{parts-≡ℤ}
use Rattle.rounding.proofs.Sterbenz.{above, below, apart_size}
use Rattle.rounding.proofs.RoundingTheorems.{signed_abs, round_within, round_relative}
use Rattle.rounding.proofs.Relative.{relative_equal, over_positive, over_negative}

-- ---- SUM
pub add_finite : (f : Format) (x y : Float) → T (finite (add f x y)) → (T (finite x)) × (T (finite y))
unfolding add
add_finite f nan y t = absurd t
add_finite f (inf s) nan t = absurd t
add_finite f (inf false) (inf false) t = absurd t
add_finite f (inf false) (inf true) t = absurd t
add_finite f (inf true) (inf false) t = absurd t
add_finite f (inf true) (inf true) t = absurd t
add_finite f (inf s) (fin r n d) t = absurd t
add_finite f (fin s m e) nan t = absurd t
add_finite f (fin s m e) (inf r) t = absurd t
add_finite f (fin s m e) (fin r n d) t = (tt, tt)

record WholeQuanta (a c U : ℕ) : Type 0 where
  count : ℕ
  is : a * U ≡ count * c

whole_quanta : (s : Bool) (a c p n U : ℕ) → Signed s a c p n U → Split p n → WholeQuanta a c U
whole_quanta s a c p n U h (less k e) = record { count = k; is = apart_size s a c p n U k h (below e) }
whole_quanta s a c p n U h (more k e) = record { count = k; is = apart_size s a c p n U k h (above e) }

pub add_relative : (f : Format) (x y : Float) → T (fits f x) → T (fits f y) → T (finite (add f x y)) → RelativelyWithin (value (add f x y)) (value x +ℚ value y) (ratio 1 (2 ^ prec f))
add_relative f x y fx fy t =
    let U = 2 ^ low f in
    let o = add_finite f x y t in
    let a = quanta_of f x fx o.0 in
    let b = quanta_of f y fy o.1 in
    let P = a.plus + b.plus in
    let N = a.minus + b.minus in
    let w = add_is f x y a.plus a.minus b.plus b.minus a.quanta b.quanta in
    let s = w.rounded.sign in
    let k = w.rounded.size in
    let c = w.over in
    let q = whole_quanta s k c P N U w.rounded.val (split P N) in
    let e =
    same_quanta U (signed s k c) (value x +ℚ value y) P N (pow_pos (low f)) w.over_pos (mul-pos ((value_defined x).1 o.0) ((value_defined y).1 o.1))
    (signed_quanta U s k c P N w.rounded.val)
    (sum_quanta U (value x) (value y) a.plus a.minus b.plus b.minus (quanta_value U x a.plus a.minus a.quanta) (quanta_value U y b.plus b.minus b.quanta)) in
    subst (λ (z : Float). RelativelyWithin (value z) (value x +ℚ value y) (ratio 1 (2 ^ prec f))) (sym w.rounded.is)
    (relative_equal 1 (2 ^ prec f)
    (round_relative f s k c q.count w.over_pos q.is (subst (λ (z : Float). T (finite z)) w.rounded.is t)) e)

-- ---- DIFFERENCE
pub neg_value : (x : Float) → value (neg x) ≡ negℚ (value x)
unfolding value neg
neg_value nan = refl
neg_value (inf s) = refl
neg_value (fin false m e) = refl
neg_value (fin true m e) = ap (λ (z : ℤ). record { num = z; den = down e }) (sym (neg_ℤ-neg_ℤ (pos (m * up e))))

pub sub_relative : (f : Format) (x y : Float) → T (fits f x) → T (fits f y) → T (finite (sub f x y)) → RelativelyWithin (value (sub f x y)) (value x -ℚ value y) (ratio 1 (2 ^ prec f))
unfolding sub
sub_relative f x y fx fy t =
    subst (λ (b : Fraction). RelativelyWithin (value (add f x (neg y))) (value x +ℚ b) (ratio 1 (2 ^ prec f))) (neg_value y)
    (add_relative f x (neg y) fx (neg-fits f y fy) t)

-- ---- PRODUCT
-- 2 ^ -prec of |a|, and half a quantum
abbrev pub roundoff : Format → Fraction → Fraction
roundoff f a = ratio 1 (2 ^ prec f) *ℚ absℚ a +ℚ ratio 1 (2 * 2 ^ low f)

rounded_within : (f : Format) (s : Bool) (a c : ℕ) (b : Fraction) → 0 < c → signed s a c ≡ b → T (finite (round f s a c)) → Within (value (round f s a c)) b (roundoff f b)
rounded_within f s a c b C e t =
    subst (λ (b : Fraction). Within (value (round f s a c)) b (roundoff f b)) e
    (subst (λ (k : ℕ). Within (value (round f s a c)) (signed s a c) (ratio 1 (2 ^ prec f) *ℚ ratio k c +ℚ ratio 1 (2 * 2 ^ low f))) (sym (signed_abs s a)) (round_within f s a c C t))

same_fraction : {n m : ℤ} {c d : ℕ} → n ≡ m → c ≡ d → ◌≡◌ {A = Fraction} (record { num = n; den = c }) (record { num = m; den = d })
same_fraction {n} {m} {c} {d} h k = ap (λ (z : ℤ). record { num = z; den = c }) h ∙ ap (λ (z : ℕ). record { num = m; den = z }) k

abbrev with_sign : Bool → ℕ → ℤ
with_sign s a = cond s (neg_ℤ (pos a)) (pos a)

signed_product : (s t : Bool) (a b : ℕ) → with_sign (unlike s t) (a * b) ≡ with_sign s a *ℤ with_sign t b
signed_product s t a b =
    parts-≡ℤ (with_sign (unlike s t) (a * b)) (with_sign s a *ℤ with_sign t b)
    (rw (mul⁺ (with_sign s a) (with_sign t b), mul⁻ (with_sign s a) (with_sign t b), signed⁺ (unlike s t) (a * b), signed⁻ (unlike s t) (a * b))
    (rw (signed⁺ s a, signed⁻ s a, signed⁺ t b, signed⁻ t b) (go s t)))
  where
    go : (s t : Bool)
        → cond (unlike s t) 0 (a * b) + (cond s 0 a * cond t b 0 + cond s a 0 * cond t 0 b) ≡ cond s 0 a * cond t 0 b + cond s a 0 * cond t b 0 + cond (unlike s t) (a * b) 0
    go false false = omega arith
    go false true = omega arith
    go true false = omega arith
    go true true = omega arith

pub neither : (b s : Bool) → T (finite (cond b nan (inf s))) → ⊥
neither true s t = t
neither false s t = t

pub mul_relative : (f : Format) (x y : Float) → T (finite (mul f x y)) → Within (value (mul f x y)) (value x *ℚ value y) (roundoff f (value x *ℚ value y))
unfolding mul value
mul_relative f nan y t = absurd t
mul_relative f (inf s) nan t = absurd t
mul_relative f (inf s) (inf r) t = absurd t
mul_relative f (inf s) (fin r n d) t = absurd (neither (eqb n 0) (unlike s r) t)
mul_relative f (fin s m e) nan t = absurd t
mul_relative f (fin s m e) (inf r) t = absurd (neither (eqb m 0) (unlike s r) t)
mul_relative f (fin s m e) (fin r n d) t =
    rounded_within f (unlike s r) (m * up e * (n * up d)) (down e * down d) (value (fin s m e) *ℚ value (fin r n d)) (mul-pos (down_pos e) (down_pos d))
    (same_fraction (signed_product s r (m * up e) (n * up d)) refl) t

-- ---- QUOTIENT
-- ±a / c over ±k / d
signed_scaled : (s t : Bool) (a c : ℕ) → with_sign (unlike s t) (a * c) ≡ cond t (neg_ℤ (with_sign s a *ℤ pos c)) (with_sign s a *ℤ pos c)
signed_scaled s false a c = signed_product s false a c
signed_scaled false true a c = refl
signed_scaled true true a c =
    parts-≡ℤ (pos (a * c)) (neg_ℤ (neg_ℤ (pos a) *ℤ pos c))
    (rw (neg⁺ (neg_ℤ (pos a) *ℤ pos c), neg⁻ (neg_ℤ (pos a) *ℤ pos c), scale⁺ (neg_ℤ (pos a)) c, scale⁻ (neg_ℤ (pos a)) c, neg⁺ (pos a), neg⁻ (pos a)) (flat (a * c) c))
  where
    flat : (x c : ℕ) → x + 0 * c ≡ x + 0
    flat x c = omega arith

signed_quotient : (s t : Bool) (a c k d : ℕ) → 0 < k → 0 < d → signed (unlike s t) (a * d) (k * c) ≡ signed s a c /ℚ signed t k d
signed_quotient s false a c k d K D = same_fraction (signed_scaled s false a d) (mul_comm k c) ∙ sym (over_positive (signed s a c) k d D)
signed_quotient s true a c zero d K D = absurd (lt_irrefl 0 K)
signed_quotient s true a c (suc k) d K D = same_fraction (signed_scaled s true a d) (mul_comm (suc k) c) ∙ sym (over_negative (signed s a c) k d D)

pub div_relative : (f : Format) (x y : Float) → T (finite y) → T (finite (div f x y)) → Within (value (div f x y)) (value x /ℚ value y) (roundoff f (value x /ℚ value y))
unfolding div value
div_relative f nan y ty t = absurd t
div_relative f (inf s) nan ty t = absurd t
div_relative f (inf s) (inf r) ty t = absurd t
div_relative f (inf s) (fin r n d) ty t = absurd t
div_relative f (fin s m e) nan ty t = absurd ty
div_relative f (fin s m e) (inf r) ty t = absurd ty
div_relative f (fin s m e) (fin r n d) ty t = go (eqb n 0) (positive n) t
  where
    -- what `div` rounds, and its exact value
    a : ℕ
    a = m * up e * down d

    c : ℕ
    c = n * up d * down e

    b : Fraction
    b = value (fin s m e) /ℚ value (fin r n d)

    positive : (n : ℕ) → T (not (eqb n 0)) → 0 < n
    positive zero h = absurd h
    positive (suc n) h = zero-lt-suc n

    go : (z : Bool) → (T (not z) → 0 < n) → T (finite (cond z (cond (eqb m 0) nan (inf (unlike s r))) (round f (unlike s r) a c)))
        → Within (value (cond z (cond (eqb m 0) nan (inf (unlike s r))) (round f (unlike s r) a c))) b (roundoff f b)
    go true k t = absurd (neither (eqb m 0) (unlike s r) t)
    go false k t =
        let N : 0 < n * up d = mul-pos (k tt) (up_pos d) in
        rounded_within f (unlike s r) a c b (mul-pos N (down_pos e)) (signed_quotient s r (m * up e) (down e) (n * up d) (down d) N (down_pos d)) t
