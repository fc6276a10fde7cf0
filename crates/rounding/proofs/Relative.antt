-- RELATIVE ERRORS. RelativelyWithin a A (r / s) says |a - A| ≤ (r / s) |A|. How relative errors go through a chain of approximations, a product, a
-- quotient and 1 + x², and what one is absolutely. Each law is proved of naturals first, with (p - n) / d for a and (P - N) / D for A (`Relatively`):
-- a difference of products is a sum of products of differences, each of which a hypothesis bounds. Assumes nothing.
use mathlib.Core.Path.{◌≡◌, refl, sym, ap, subst, subst₂, ◌∙◌}
use Prim.Native.Nat.{ℕ, zero, suc, ◌+◌, ◌-◌, ◌*◌, ◌≤◌, ◌<◌}
use native.Mathlib.Nat.{le_of_lt, lt_irrefl, zero-lt-suc, one-mul, mul-pos, mul-le-mul_right, add-sub_of_le}
use native.Mathlib.Omega.{arith}
use lib.IntN.{ℤ, pos, negsuc, neg_ℤ, nat_abs, ◌*ℤ◌}
use Rattle.exact.specs.Fraction.{Fraction, Defined, ratio, whole, absℚ, over, ◌+ℚ◌, ◌*ℚ◌, ◌/ℚ◌, ◌≤ℚ◌}
use Rattle.exact.specs.Value.{Equal, Within, RelativelyWithin}
use Rattle.exact.proofs.Close.{ring, semiring, Close, recast, times, cancel, product}
use Rattle.exact.proofs.Parts.{part⁺, part⁻, num⁺, num⁻, mul⁺, mul⁻, scale⁺, scale⁻, neg⁺, neg⁻, abs_parts, OneSided, up, down, one_sided, sum_parts}
use Rattle.exact.proofs.Order.{≤ℚ-parts, parts-≤ℚ, within_close, close_within, within_loosen, equal⁺, equal⁻}
use Rattle.exact.proofs.Inequality.{scale_le}
use Rattle.exact.proofs.Defined.{first_pos}

-- ---- |a - b| ≤ (r / s) |b|, multiplied across
-- of (p - n) / d and (P - N) / D, where P or N is 0, so that P + N is the size of the second numerator
abbrev pub Relatively : (p n d P N D r s : ℕ) → Type 0
Relatively p n d P N D r s = Close ((p * D + N * d) * s) ((n * D + P * d) * s) (r * (P + N) * d)

pub relative_across : (a b : Fraction) (r s : ℕ) → RelativelyWithin a b (ratio r s) → Relatively (num⁺ a) (num⁻ a) a.den (num⁺ b) (num⁻ b) b.den r s
relative_across a b r s h =
    core (num⁺ a) (num⁻ a) a.den (num⁺ b) (num⁻ b) b.den (nat_abs b.num) h.right (abs_parts b.num) (within_close h)
  where
    core : (p n d P N D z : ℕ) → 0 < D → z ≡ P + N → Close ((p * D + N * d) * (s * D)) ((n * D + P * d) * (s * D)) (r * z * (d * D)) → Relatively p n d P N D r s
    core p n d P N D z E e h = cancel D E (omega (arith, ap (λ (y : ℕ). r * y * (d * D)) e))

pub across_relative : (a b : Fraction) (r s : ℕ) → Defined a → Defined b → 0 < s → Relatively (num⁺ a) (num⁻ a) a.den (num⁺ b) (num⁻ b) b.den r s → RelativelyWithin a b (ratio r s)
across_relative a b r s d e S h =
    close_within d e (mul-pos S e) (core (num⁺ a) (num⁻ a) a.den (num⁺ b) (num⁻ b) b.den (nat_abs b.num) (abs_parts b.num) h)
  where
    core : (p n d P N D z : ℕ) → z ≡ P + N → Relatively p n d P N D r s → Close ((p * D + N * d) * (s * D)) ((n * D + P * d) * (s * D)) (r * z * (d * D))
    core p n d P N D z e h = omega (arith, times D h, ap (λ (y : ℕ). r * y * (d * D)) e)

-- the bound's own denominator is above 0
bound_pos : {a b : Fraction} (r s : ℕ) → RelativelyWithin a b (ratio r s) → 0 < s
bound_pos {a} {b} r s h = first_pos s b.den h.bound

-- ---- no error, a larger bound, and an equal exact value
pub relative_exact : {a A : Fraction} → Equal a A → RelativelyWithin a A (ratio 0 1)
relative_exact {a} {A} e = across_relative a A 0 1 e.left e.right (zero-lt-suc 0) (core (num⁺ a) (num⁻ a) a.den (num⁺ A) (num⁻ A) A.den (equal⁺ e) (equal⁻ e))
  where
    core : (p n d P N D : ℕ) → p * D ≡ P * d → n * D ≡ N * d → Relatively p n d P N D 0 1
    core p n d P N D h k = omega arith

pub relative_loosen : {a A : Fraction} (r s t u : ℕ) → 0 < u → r * u ≤ t * s → RelativelyWithin a A (ratio r s) → RelativelyWithin a A (ratio t u)
relative_loosen {a} {A} r s t u u-pos l h =
    across_relative a A t u h.left h.right u-pos (core (num⁺ a) (num⁻ a) a.den (num⁺ A) (num⁻ A) A.den (relative_across a A r s h))
  where
    core : (p n d P N D : ℕ) → Relatively p n d P N D r s → Relatively p n d P N D t u
    core p n d P N D k = cancel s (bound_pos r s h) (finish (p * D + N * d) (n * D + P * d) (P + N) d k)
      where
        finish : (x y z d : ℕ) → Close (x * s) (y * s) (r * z * d) → Close (x * u * s) (y * u * s) (t * z * d * s)
        finish x y z d h = omega (arith, times u h, mul-le-mul_right (z * d) l)

pub relative_equal : {a A B : Fraction} (r s : ℕ) → RelativelyWithin a A (ratio r s) → Equal A B → RelativelyWithin a B (ratio r s)
relative_equal {a} {A} {B} r s h e =
    across_relative a B r s h.left e.right (bound_pos r s h)
    (core (num⁺ a) (num⁻ a) a.den (num⁺ A) (num⁻ A) A.den (num⁺ B) (num⁻ B) B.den h.right (equal⁺ e) (equal⁻ e) (relative_across a A r s h))
  where
    core : (p n d P N D X Y Z : ℕ) → 0 < D → P * Z ≡ X * D → N * Z ≡ Y * D → Relatively p n d P N D r s → Relatively p n d X Y Z r s
    core p n d P N D X Y Z E i k h =
        cancel D E
        (simp ring
        (omega (
          arith,
          simp ring at (times Z h),
          simp ring at (ap (λ (z : ℕ). z * (d * s)) i),
          simp ring at (ap (λ (z : ℕ). z * (d * s)) k),
          simp ring at (ap (λ (z : ℕ). z * (r * d)) i),
          simp ring at (ap (λ (z : ℕ). z * (r * d)) k),
        )))

-- ---- A CHAIN: a within r / s of b, and b within t / u of c
-- b is at most (1 + t / u) times c in size
size_bound : (P N D X Y Z t u : ℕ) → OneSided P N → Relatively P N D X Y Z t u → (P + N) * Z * u ≤ (u + t) * (X + Y) * D
size_bound P N D X Y Z t u (up e) h = omega (arith, ap (λ (z : ℕ). z * (Z * u)) e)
size_bound P N D X Y Z t u (down e) h = omega (arith, ap (λ (z : ℕ). z * (Z * u)) e)

chain_core : (p n d P N D X Y Z r s t u : ℕ) → 0 < D → (P + N) * Z * u ≤ (u + t) * (X + Y) * D → Relatively p n d P N D r s → Relatively P N D X Y Z t u
    → Relatively p n d X Y Z (r * u + s * t + r * t) (s * u)
chain_core p n d P N D X Y Z r s t u E b h k = cancel D E (simp ring (omega (arith, simp ring at (times (Z * u) h), simp ring at (times (d * s) k), simp ring at (mul-le-mul_right (r * d) b))))

pub relative_chain : {a b c : Fraction} (r s t u : ℕ) → RelativelyWithin a b (ratio r s) → RelativelyWithin b c (ratio t u) → RelativelyWithin a c (ratio (r * u + s * t + r * t) (s * u))
relative_chain {a} {b} {c} r s t u h k =
    let i = relative_across b c t u k in
    across_relative a c (r * u + s * t + r * t) (s * u) h.left k.right (mul-pos (bound_pos r s h) (bound_pos t u k))
    (chain_core (num⁺ a) (num⁻ a) a.den (num⁺ b) (num⁻ b) b.den (num⁺ c) (num⁻ c) c.den r s t u h.right
    (size_bound (num⁺ b) (num⁻ b) b.den (num⁺ c) (num⁻ c) c.den t u (one_sided b.num) i) (relative_across a b r s h) i)

own_size : (p n : ℕ) → Close p n (p + n)
own_size p n = omega arith

-- ---- A PRODUCT: with x = a - b and X = A - B, x y - X Y = (x - X) (y - Y) + (x - X) Y + X (y - Y)
product_core : (a b A B r s c e C E t u : ℕ) → Close ((a + B) * s) ((b + A) * s) (r * (A + B)) → Close ((c + E) * u) ((e + C) * u) (t * (C + E))
    → Close ((a * c + b * e + (A * E + B * C)) * (s * u)) ((a * e + b * c + (A * C + B * E)) * (s * u)) ((r * u + s * t + r * t) * ((A + B) * (C + E)))
product_core a b A B r s c e C E t u h k =
    simp ring (omega (arith, simp ring at (product h k), simp ring at (times u (product h (own_size C E))), simp ring at (times s (product (own_size A B) k))))

product_parts : (p n d P N D r s q m e Q M E t u : ℕ) → Relatively p n d P N D r s → Relatively q m e Q M E t u
    → Relatively (p * q + n * m) (p * m + n * q) (d * e) (P * Q + N * M) (P * M + N * Q) (D * E) (r * u + s * t + r * t) (s * u)
product_parts p n d P N D r s q m e Q M E t u h k =
    recast (product_core (p * D) (n * D) (P * d) (N * d) r s (q * E) (m * E) (Q * e) (M * e) t u (recast h refl refl (simp semiring)) (recast k refl refl (simp semiring)))
    (simp semiring) (simp semiring) (simp semiring)

pub relative_product : {a A b B : Fraction} (r s t u : ℕ) → RelativelyWithin a A (ratio r s) → RelativelyWithin b B (ratio t u)
    → RelativelyWithin (a *ℚ b) (A *ℚ B) (ratio (r * u + s * t + r * t) (s * u))
relative_product {a} {A} {b} {B} r s t u h k =
    across_relative (a *ℚ b) (A *ℚ B) (r * u + s * t + r * t) (s * u) (mul-pos h.left k.left) (mul-pos h.right k.right) (mul-pos (bound_pos r s h) (bound_pos t u k))
    (rw (mul⁺ a.num b.num, mul⁻ a.num b.num, mul⁺ A.num B.num, mul⁻ A.num B.num)
    (product_parts (num⁺ a) (num⁻ a) a.den (num⁺ A) (num⁻ A) A.den r s (num⁺ b) (num⁻ b) b.den (num⁺ B) (num⁻ B) B.den t u (relative_across a A r s h) (relative_across b B t u k)))

-- ---- A QUOTIENT by B, for t < u = t + w: the rounded divisor is at least w / u of the exact one
-- of divisors q / e and Q / E: with x = (p - n) D and X = (P - N) d, x Q e - X q E = (x - X) Q e - X (q E - Q e)
crossed : (p n d P N D r s q e Q E t u : ℕ) → Relatively p n d P N D r s → Relatively q 0 e Q 0 E t u
    → Close ((p * e * (D * Q) + N * E * (d * q)) * (s * u)) ((n * e * (D * Q) + P * E * (d * q)) * (s * u)) ((r * u + s * t) * ((P + N) * d * (Q * e)))
crossed p n d P N D r s q e Q E t u h k =
    simp ring (omega (arith, simp ring at (times (e * Q * u) h), simp ring at (times s (product (own_size (P * d) (N * d)) (plain k)))))
  where
    plain : Relatively q 0 e Q 0 E t u → Close (q * E * u) (Q * e * u) (t * (Q * e))
    plain k = omega arith

divisor_bound : (q e Q E t w : ℕ) → Relatively q 0 e Q 0 E t (t + w) → Q * e * w ≤ q * E * (t + w)
divisor_bound q e Q E t w k = omega arith

quotient_core : (p n d P N D r s q e Q E t w : ℕ) → 0 < t + w → Relatively p n d P N D r s → Relatively q 0 e Q 0 E t (t + w)
    → Relatively (p * e) (n * e) (d * q) (P * E) (N * E) (D * Q) (r * (t + w) + s * t) (s * w)
quotient_core p n d P N D r s q e Q E t w W h k =
    cancel (t + w) W
    (recast (finish (p * e * (D * Q) + N * E * (d * q)) (n * e * (D * Q) + P * E * (d * q)) (t + w) (r * (t + w) + s * t) ((P + N) * d) (Q * e) (q * E)
    (crossed p n d P N D r s q e Q E t (t + w) h k) (divisor_bound q e Q E t w k))
    refl refl (turn (r * (t + w) + s * t) (t + w)))
  where
    finish : (x y u R Z a b : ℕ) → Close (x * (s * u)) (y * (s * u)) (R * (Z * a)) → a * w ≤ b * u → Close (x * (s * w) * u) (y * (s * w) * u) (R * (Z * b) * u)
    finish x y u R Z a b c l = omega (arith, times w c, mul-le-mul_right (R * Z) l)

    turn : (R u : ℕ) → R * ((P + N) * d * (q * E)) * u ≡ R * (P * E + N * E) * (d * q) * u
    turn R u = simp semiring

pub over_positive : (a : Fraction) (n d : ℕ) → 0 < d → over a (pos n) d ≡ record { num = a.num *ℤ pos d; den = a.den * n }
over_positive a n zero h = absurd (lt_irrefl 0 h)
over_positive a n (suc d) h = refl

pub over_negative : (a : Fraction) (n d : ℕ) → 0 < d → over a (negsuc n) d ≡ record { num = neg_ℤ (a.num *ℤ pos d); den = a.den * suc n }
over_negative a n zero h = absurd (lt_irrefl 0 h)
over_negative a n (suc d) h = refl

-- the rounded divisor is not 0, and has the sign of the exact one
nonzero : (q e Q E t w : ℕ) → 0 < Q → 0 < e → 0 < w → Relatively q 0 e Q 0 E t (t + w) → 0 < q
nonzero zero e Q E t w O C W k = absurd (none (Q * e * w) E (t + w) (mul-pos (mul-pos O C) W) (divisor_bound 0 e Q E t w k))
  where
    none : (x E u : ℕ) → 0 < x → x ≤ 0 * E * u → ⊥
    none x E u h k = omega arith
nonzero (suc q) e Q E t w O C W k = zero-lt-suc q

pub negated : (p n d P N D r s : ℕ) → Relatively p n d P N D r s → Relatively n p d N P D r s
negated p n d P N D r s h = omega arith

opposite : (q Q e E t w : ℕ) → 0 < Q → 0 < e → 0 < w → (q * E + Q * e) * (t + w) ≤ (0 * E + 0 * e) * (t + w) + t * (0 + Q) * e → ⊥
opposite q Q e E t w O C W h = omega (arith, mul-pos (mul-pos O C) W)

above_zero : (t w : ℕ) → 0 < w → 0 < t + w
above_zero t w h = omega arith

quotient_signed : (a A : Fraction) (z Z : ℤ) (e E r s t w : ℕ) → 0 < w → 0 < e → 0 < E → 0 < nat_abs Z → RelativelyWithin a A (ratio r s)
    → Relatively (part⁺ z) (part⁻ z) e (part⁺ Z) (part⁻ Z) E t (t + w) → RelativelyWithin (over a z e) (over A Z E) (ratio (r * (t + w) + s * t) (s * w))
quotient_signed a A (pos q) (pos Q) e E r s t w W C D O h k =
    subst₂ (λ (x y : Fraction). RelativelyWithin x y (ratio (r * (t + w) + s * t) (s * w))) (sym (over_positive a q e C)) (sym (over_positive A Q E D))
    (across_relative (record { num = a.num *ℤ pos e; den = a.den * q }) (record { num = A.num *ℤ pos E; den = A.den * Q }) (r * (t + w) + s * t) (s * w)
    (mul-pos h.left (nonzero q e Q E t w O C W k)) (mul-pos h.right O) (mul-pos (bound_pos r s h) W)
    (rw (scale⁺ a.num e, scale⁻ a.num e, scale⁺ A.num E, scale⁻ A.num E)
    (quotient_core (num⁺ a) (num⁻ a) a.den (num⁺ A) (num⁻ A) A.den r s q e Q E t w (above_zero t w W) (relative_across a A r s h) k)))
quotient_signed a A (negsuc q) (negsuc Q) e E r s t w W C D O h k =
    subst₂ (λ (x y : Fraction). RelativelyWithin x y (ratio (r * (t + w) + s * t) (s * w))) (sym (over_negative a q e C)) (sym (over_negative A Q E D))
    (across_relative (record { num = neg_ℤ (a.num *ℤ pos e); den = a.den * suc q }) (record { num = neg_ℤ (A.num *ℤ pos E); den = A.den * suc Q }) (r * (t + w) + s * t) (s * w)
    (mul-pos h.left (zero-lt-suc q)) (mul-pos h.right O) (mul-pos (bound_pos r s h) W)
    (rw (neg⁺ (a.num *ℤ pos e), neg⁻ (a.num *ℤ pos e), neg⁺ (A.num *ℤ pos E), neg⁻ (A.num *ℤ pos E), scale⁺ a.num e, scale⁻ a.num e, scale⁺ A.num E, scale⁻ A.num E)
    (quotient_core (num⁻ a) (num⁺ a) a.den (num⁻ A) (num⁺ A) A.den r s (suc q) e (suc Q) E t w (above_zero t w W)
    (negated (num⁺ a) (num⁻ a) a.den (num⁺ A) (num⁻ A) A.den r s (relative_across a A r s h)) (negated 0 (suc q) e 0 (suc Q) E t (t + w) k))))
quotient_signed a A (pos q) (negsuc Q) e E r s t w W C D O h k = absurd (opposite q (suc Q) e E t w O C W k.le)
quotient_signed a A (negsuc q) (pos Q) e E r s t w W C D O h k = absurd (opposite (suc q) Q e E t w O C W (negated 0 (suc q) e Q 0 E t (t + w) k).le)

pub relative_quotient : {a A b B : Fraction} (r s t u : ℕ) → RelativelyWithin a A (ratio r s) → RelativelyWithin b B (ratio t u) → t < u → 0 < nat_abs B.num
    → RelativelyWithin (a /ℚ b) (A /ℚ B) (ratio (r * u + s * t) (s * (u - t)))
relative_quotient {a} {A} {b} {B} r s t u h k l o =
    subst (λ (v : ℕ). RelativelyWithin (a /ℚ b) (A /ℚ B) (ratio (r * v + s * t) (s * (u - t)))) (add-sub_of_le (le_of_lt l))
    (quotient_signed a A b.num B.num b.den B.den r s t (u - t) (rest u t l) k.left k.right o h
    (subst (λ (v : ℕ). Relatively (num⁺ b) (num⁻ b) b.den (num⁺ B) (num⁻ B) B.den t v) (sym (add-sub_of_le (le_of_lt l))) (relative_across b B t u k)))
  where
    rest : (u t : ℕ) → t < u → 0 < u - t
    rest u t l = omega arith

-- ---- 1 + x²: to add 1 to what is not negative makes no relative error larger
plus_one : (p n d P N D r s p' n' P' N' : ℕ) → P + N ≤ P' + N' → p' + n ≡ n' + (d + p) → P' + N ≡ N' + (D + P) → Relatively p n d P N D r s → Relatively p' n' d P' N' D r s
plus_one p n d P N D r s p' n' P' N' l i k h =
    simp ring (omega (arith, simp ring at h, simp ring at (mul-le-mul_right (r * d) l), simp ring at (ap (λ (z : ℕ). z * (D * s)) i), simp ring at (ap (λ (z : ℕ). z * (d * s)) k)))

pub relative_one_plus : {a A : Fraction} (r s : ℕ) → whole (pos 0) ≤ℚ A → RelativelyWithin a A (ratio r s) → RelativelyWithin (whole (pos 1) +ℚ a) (whole (pos 1) +ℚ A) (ratio r s)
relative_one_plus {a} {A} r s z h =
    let b = whole (pos 1) +ℚ a in
    let B = whole (pos 1) +ℚ A in
    let i = plain (num⁺ a) (num⁻ a) a.den (num⁺ b) (num⁻ b) (sum_parts (whole (pos 1)) a) in
    let k = plain (num⁺ A) (num⁻ A) A.den (num⁺ B) (num⁻ B) (sum_parts (whole (pos 1)) A) in
    across_relative b B r s (mul-pos (zero-lt-suc 0) h.left) (mul-pos (zero-lt-suc 0) h.right) (bound_pos r s h)
    (subst₂ (λ (d D : ℕ). Relatively (num⁺ b) (num⁻ b) d (num⁺ B) (num⁻ B) D r s) (sym (one-mul a.den)) (sym (one-mul A.den))
    (plus_one (num⁺ a) (num⁻ a) a.den (num⁺ A) (num⁻ A) A.den r s (num⁺ b) (num⁻ b) (num⁺ B) (num⁻ B)
    (larger (num⁺ A) (num⁻ A) A.den (num⁺ B) (num⁻ B) (one_sided A.num) (≤ℚ-parts (whole (pos 0)) A z) k) i k (relative_across a A r s h)))
  where
    plain : (p n d p' n' : ℕ) → p' + (0 * d + n * 1) ≡ n' + (1 * d + p * 1) → p' + n ≡ n' + (d + p)
    plain p n d p' n' h = omega arith

    larger : (P N D P' N' : ℕ) → OneSided P N → 0 * D + N * 1 ≤ P * 1 + 0 * D → P' + N ≡ N' + (D + P) → P + N ≤ P' + N'
    larger P N D P' N' (up e) l k = omega arith
    larger P N D P' N' (down e) l k = omega arith

square_nonnegative : (x : Fraction) → whole (pos 0) ≤ℚ x *ℚ x
square_nonnegative x = parts-≤ℚ (whole (pos 0)) (x *ℚ x) (core (num⁺ (x *ℚ x)) (num⁻ (x *ℚ x)) (x.den * x.den) (mul⁻ x.num x.num ∙ none (num⁺ x) (num⁻ x) (one_sided x.num)))
  where
    none : (p n : ℕ) → OneSided p n → p * n + n * p ≡ 0
    none p n (up e) = omega (arith, ap (λ (z : ℕ). z * p) e)
    none p n (down e) = omega (arith, ap (λ (z : ℕ). z * n) e)

    core : (P N D : ℕ) → N ≡ 0 → 0 * D + N * 1 ≤ P * 1 + 0 * D
    core P N D e = omega arith

pub relative_one_plus_square : {x X : Fraction} (r s : ℕ) → RelativelyWithin x X (ratio r s)
    → RelativelyWithin (whole (pos 1) +ℚ x *ℚ x) (whole (pos 1) +ℚ X *ℚ X) (ratio (2 * (r * s) + r * r) (s * s))
relative_one_plus_square {x} {X} r s h =
    relative_one_plus (2 * (r * s) + r * r) (s * s) (square_nonnegative X)
    (subst (λ (k : ℕ). RelativelyWithin (x *ℚ x) (X *ℚ X) (ratio k (s * s))) (twice r s) (relative_product r s r s h h))
  where
    twice : (r s : ℕ) → r * s + s * r + r * r ≡ 2 * (r * s) + r * r
    twice r s = omega arith

-- ---- ABSOLUTELY, where |A| ≤ M
pub relative_absolute : {a A : Fraction} (M : Fraction) (r s : ℕ) → RelativelyWithin a A (ratio r s) → Defined M → absℚ A ≤ℚ M → Within a A (ratio r s *ℚ M)
relative_absolute {a} {A} M r s h d l = within_loosen h (mul-pos (bound_pos r s h) d) (scale_le r s (absℚ A) M l)
