-- ROUNDING KEEPS THE ORDER of floats with no sign: finite ones from +0 up. A sum is at least each of its parts, a product by at most 1 is at most the
-- other factor, a quotient of x by t is at most q where x is at most q t, and at least q where it is at least q t; a sum grows with its parts, a product with its first factor and a quotient
-- with what is divided. All over the format, from `round_mono` (lib.Ieee.Order). A float with no sign is `num` / `den` (lib.Ieee.Positive). Assumes nothing.
use mathlib.Core.Path.{◌≡◌, refl, sym, subst, ◌∙◌}
use mathlib.Core.Logic.{◌⊎◌, inl, inr}
use mathlib.Core.Bool.{Bool, true, false, not, cond, true≢false}
use Prim.Native.Nat.{ℕ, zero, suc, ◌+◌, ◌*◌, ◌^◌, ◌≤◌, ◌<◌}
use native.Mathlib.Nat.{le_refl, le_of_eq, mul-pos, mul_comm, mul-le-mul_right}
use native.Mathlib.Omega.{arith}
use lib.IntN.{ℤ, pos}
use lib.Dec.{T, ltb, eqb, eqb-suc-zero, lt→ltb, ltb→lt, lit<}
use lib.Ieee.{Float, nan, inf, fin, Format, prec, low, up, down, odd, units, round, sum, add, mul, div, fits, lt, le, eq}
use lib.Ieee.Fits.{down_pos, up_pos, round_is}
use lib.Ieee.Exact.{HasValue, odd_sign, round_exact}
use lib.Ieee.Order.{drop, kept, le_of_values, round_mono}
use lib.Ieee.Scale.{finite, overflow, round_same}
use lib.Ieee.Positive.{num, den, den_pos, positive}
use Rattle.exact.specs.Fraction.{whole, ◌≤ℚ◌}
use Rattle.exact.specs.Value.{value}
use Rattle.exact.proofs.Close.{ring, Split, less, more, split}
use Rattle.exact.proofs.Defined.{value_defined}
use Rattle.exact.proofs.Order.{≤ℚ-parts, parts-≤ℚ, ≤ℚ-trans, le_value, le_trans}
use Rattle.rounding.proofs.Quanta.{in_format, nonnegative_quanta}

-- ---- floats with no sign
abbrev pub unsigned : Float → Bool
unsigned nan = false
unsigned (inf s) = false
unsigned (fin s m e) = not s

record NoSign (x : Float) : Type 0 where
  digits : ℕ
  exponent : ℤ
  is : x ≡ fin false digits exponent

no_sign : (x : Float) → T (unsigned x) → NoSign x
no_sign nan u = absurd u
no_sign (inf s) u = absurd u
no_sign (fin true m e) u = absurd u
no_sign (fin false m e) u = record { digits = m; exponent = e; is = refl }

pub unsigned_finite : (x : Float) → T (unsigned x) → T (finite x)
unsigned_finite nan u = absurd u
unsigned_finite (inf s) u = absurd u
unsigned_finite (fin s m e) u = tt

-- one that has a value with no sign
pub of_value : (x : Float) (a c : ℕ) → HasValue x false a c → T (unsigned x)
of_value nan a c v = absurd v
of_value (inf s) a c v = absurd v
of_value (fin true m e) a c v = absurd (true≢false v.0)
of_value (fin false m e) a c v = tt

own_value : (x : Float) → T (unsigned x) → HasValue x false (num x) (den x)
own_value nan u = absurd u
own_value (inf s) u = absurd u
own_value (fin true m e) u = absurd u
own_value (fin false m e) u = (refl, refl)

-- ---- their order is the one of the fractions
pub le_cross : (x y : Float) → T (unsigned x) → T (unsigned y) → T (le x y) → num x * den y ≤ num y * den x
unfolding value
le_cross nan y u v h = absurd u
le_cross (inf s) y u v h = absurd u
le_cross (fin true m e) y u v h = absurd u
le_cross (fin false m e) nan u v h = absurd v
le_cross (fin false m e) (inf s) u v h = absurd v
le_cross (fin false m e) (fin true n d) u v h = absurd v
le_cross (fin false m e) (fin false n d) u v h =
    omega (arith, ≤ℚ-parts (value (fin false m e)) (value (fin false n d)) ((le_value (fin false m e) (fin false n d) tt tt).0 h))

pub cross_le : (x y : Float) → T (unsigned x) → T (unsigned y) → num x * den y ≤ num y * den x → T (le x y)
cross_le x y u v h = le_of_values x y (num x) (den x) (num y) (den y) (den_pos x) (den_pos y) (own_value x u) (own_value y v) h

pub le_self : (x : Float) → T (unsigned x) → T (le x x)
le_self x u = cross_le x x u u (le_refl (num x * den x))

pub le_either : (x y : Float) → T (unsigned x) → T (unsigned y) → T (le x y) ⊎ T (le y x)
le_either x y u v = go (split (num x * den y) (num y * den x))
  where
    go : Split (num x * den y) (num y * den x) → T (le x y) ⊎ T (le y x)
    go (less k e) = inl (cross_le x y u v (omega arith))
    go (more k e) = inr (cross_le y x v u (omega arith))

-- ---- what lies above or below a float of the format still does when it is rounded
-- the float itself, rounded, has its own value
from_zero : (m : ℕ) (e : ℤ) → whole (pos 0) ≤ℚ value (fin false m e)
unfolding value
from_zero m e = parts-≤ℚ (whole (pos 0)) (value (fin false m e)) (omega arith)

own_rounded : (f : Format) (x : Float) → T (unsigned x) → T (fits f x) → HasValue (round f false (num x) (den x)) false (num x) (den x)
own_rounded f nan u t = absurd u
own_rounded f (inf s) u t = absurd u
own_rounded f (fin true m e) u t = absurd u
own_rounded f (fin false m e) u t =
    let w = in_format f (fin false m e) t tt in
    round_exact f false (m * up e) (down e) w.significand w.shift (down_pos e) w.digits w.range
    (core (m * up e) (2 ^ low f) (down e) (w.significand * 2 ^ w.shift) (nonnegative_quanta f (fin false m e) w (from_zero m e)))
  where
    core : (a U c g : ℕ) → a * U + 0 * c ≡ g * c → a * U ≡ g * c
    core a U c g h = omega arith

-- a rounded fraction is an infinity or has no sign
pub round_unsigned : (f : Format) (a c : ℕ) (hi : Float) → T (finite hi) → T (le (round f false a c) hi) → T (unsigned (round f false a c))
unfolding units le lt eq
round_unsigned f a c hi t h =
    subst (λ (z : Float). T (unsigned z)) (sym (round_is f false a c))
    (go (ltb (q * 2 ^ k) (overflow f)) (subst (λ (z : Float). T (le z hi)) (round_is f false a c) h))
  where
    q : ℕ
    q = kept (prec f) (a * 2 ^ low f) c

    k : ℕ
    k = drop (prec f) (a * 2 ^ low f) c

    none : (hi : Float) → T (finite hi) → T (le (inf false) hi) → ⊥
    none nan t h = t
    none (inf s) t h = t
    none (fin s m e) t h = h

    go : (b : Bool) → T (le (cond b (odd (suc (prec f)) false q k (low f)) (inf false)) hi) → T (unsigned (cond b (odd (suc (prec f)) false q k (low f)) (inf false)))
    go true h = of_value (odd (suc (prec f)) false q k (low f)) (q * 2 ^ k) (2 ^ low f) (odd_sign (suc (prec f)) false q k (low f))
    go false h = absurd (none hi t h)

same_size : (x y : Float) → T (unsigned x) → HasValue y false (num x) (den x) → num y * den x ≡ num x * den y
same_size x nan u v = absurd v
same_size x (inf s) u v = absurd v
same_size x (fin s m e) u v = v.1

-- a / c ≤ x
pub round_at_most : (f : Format) (x : Float) (a c : ℕ) → T (unsigned x) → T (fits f x) → 0 < c → a * den x ≤ num x * c → T (le (round f false a c) x)
round_at_most f x a c u t C h =
    let w = round f false (num x) (den x) in
    let v = own_rounded f x u t in
    let l = round_mono f a c (num x) (den x) C (den_pos x) h in
    let uw = of_value w (num x) (den x) v in
    le_trans (round f false a c) w x l (cross_le w x uw u (le_of_eq (same_size x w u v)))

-- what is at least w is at least x, where x ≤ w
le_lower : (x w z : Float) → T (unsigned x) → T (unsigned w) → num x * den w ≤ num w * den x → T (le w z) → T (le x z)
unfolding le lt eq
le_lower nan w z u v h k = absurd u
le_lower (inf s) w z u v h k = absurd u
le_lower (fin s m e) nan z u v h k = absurd v
le_lower (fin s m e) (inf t) z u v h k = absurd v
le_lower (fin s m e) (fin t a b) nan u v h k = absurd k
le_lower (fin s m e) (fin t a b) (inf true) u v h k = absurd k
le_lower (fin s m e) (fin t a b) (inf false) u v h k = tt
le_lower (fin s m e) (fin t a b) (fin r n d) u v h k =
    let x = fin s m e in
    let w = fin t a b in
    let z = fin r n d in
    (le_value x z tt tt).1
    (≤ℚ-trans (value x) (value w) (value z) ((value_defined w).1 tt) ((le_value x w tt tt).0 (cross_le x w u v h)) ((le_value w z tt tt).0 k))

-- x ≤ a / c
pub round_at_least : (f : Format) (x : Float) (a c : ℕ) → T (unsigned x) → T (fits f x) → 0 < c → num x * c ≤ a * den x → T (le x (round f false a c))
round_at_least f x a c u t C h =
    let w = round f false (num x) (den x) in
    let v = own_rounded f x u t in
    le_lower x w (round f false a c) u (of_value w (num x) (den x) v) (le_of_eq (sym (same_size x w u v))) (round_mono f (num x) (den x) a c (den_pos x) C h)

-- ---- the operations on floats with no sign
add_is : (f : Format) (x y : Float) → T (unsigned x) → T (unsigned y) → add f x y ≡ round f false (num x * den y + num y * den x) (den x * den y)
unfolding add sum
add_is f x y u v = rw ((no_sign x u).is, (no_sign y v).is) refl

mul_is : (f : Format) (x y : Float) → T (unsigned x) → T (unsigned y) → mul f x y ≡ round f false (num x * num y) (den x * den y)
unfolding mul
mul_is f x y u v = rw ((no_sign x u).is, (no_sign y v).is) refl

not_zero : (m : ℕ) → T (ltb 0 m) → eqb m 0 ≡ false
not_zero zero t = absurd t
not_zero (suc m) t = eqb-suc-zero m

div_is : (f : Format) (x t : Float) → T (unsigned x) → T (positive t) → div f x t ≡ round f false (num x * den t) (num t * den x)
unfolding div
div_is f x nan u p = absurd p
div_is f x (inf s) u p = absurd p
div_is f x (fin true m e) u p = absurd p
div_is f x (fin false m e) u p = rw ((no_sign x u).is, not_zero m p) refl

positive_num : (t : Float) → T (positive t) → 0 < num t
positive_num nan p = absurd p
positive_num (inf s) p = absurd p
positive_num (fin true m e) p = absurd p
positive_num (fin false m e) p = mul-pos (ltb→lt 0 m p) (up_pos e)

-- what is at least a positive float is positive
pub positive_above : (x t : Float) → T (positive x) → T (unsigned x) → T (unsigned t) → T (le x t) → T (positive t)
positive_above x nan p u v h = absurd v
positive_above x (inf s) p u v h = absurd v
positive_above x (fin true m e) p u v h = absurd v
positive_above x (fin false m e) p u v h =
    lt→ltb 0 m (first m (up e * den x) (core (num x) (den x) m (up e) (down e) (mul-pos (positive_num x p) (down_pos e)) (le_cross x (fin false m e) u v h)))
  where
    core : (a c m k d : ℕ) → 0 < a * d → a * d ≤ m * k * c → 0 < m * (k * c)
    core a c m k d h l = omega arith

    first : (m z : ℕ) → 0 < m * z → 0 < m
    first zero z h = omega arith
    first (suc m) z h = omega arith

-- ---- A SUM is at least each of its parts, and grows with them
pub add_unsigned : (f : Format) (x y hi : Float) → T (unsigned x) → T (unsigned y) → T (finite hi) → T (le (add f x y) hi) → T (unsigned (add f x y))
add_unsigned f x y hi u v t h =
    let e = add_is f x y u v in
    subst (λ (z : Float). T (unsigned z)) (sym e) (round_unsigned f (num x * den y + num y * den x) (den x * den y) hi t (subst (λ (z : Float). T (le z hi)) e h))

pub add_from_left : (f : Format) (x y : Float) → T (unsigned x) → T (unsigned y) → T (fits f x) → T (le x (add f x y))
add_from_left f x y u v t =
    subst (λ (z : Float). T (le x z)) (sym (add_is f x y u v))
    (round_at_least f x (num x * den y + num y * den x) (den x * den y) u t (mul-pos (den_pos x) (den_pos y)) (core (num x) (den x) (num y) (den y)))
  where
    core : (a c b d : ℕ) → a * (c * d) ≤ (a * d + b * c) * c
    core a c b d = omega arith

pub add_from_right : (f : Format) (x y : Float) → T (unsigned x) → T (unsigned y) → T (fits f y) → T (le y (add f x y))
add_from_right f x y u v t =
    subst (λ (z : Float). T (le y z)) (sym (add_is f x y u v))
    (round_at_least f y (num x * den y + num y * den x) (den x * den y) v t (mul-pos (den_pos x) (den_pos y)) (core (num x) (den x) (num y) (den y)))
  where
    core : (a c b d : ℕ) → b * (c * d) ≤ (a * d + b * c) * d
    core a c b d = omega arith

pub add_mono : (f : Format) (x y x' y' : Float) → T (unsigned x) → T (unsigned y) → T (unsigned x') → T (unsigned y') → T (le x x') → T (le y y') → T (le (add f x y) (add f x' y'))
add_mono f x y x' y' u v u' v' h k =
    subst (λ (z : Float). T (le z (add f x' y'))) (sym (add_is f x y u v))
    (subst (λ (z : Float). T (le (round f false (num x * den y + num y * den x) (den x * den y)) z)) (sym (add_is f x' y' u' v'))
    (round_mono f (num x * den y + num y * den x) (den x * den y) (num x' * den y' + num y' * den x') (den x' * den y') (mul-pos (den_pos x) (den_pos y)) (mul-pos (den_pos x') (den_pos y'))
    (core (num x) (den x) (num y) (den y) (num x') (den x') (num y') (den y') (le_cross x x' u u' h) (le_cross y y' v v' k))))
  where
    core : (a c b d a' c' b' d' : ℕ) → a * c' ≤ a' * c → b * d' ≤ b' * d → (a * d + b * c) * (c' * d') ≤ (a' * d' + b' * c') * (c * d)
    core a c b d a' c' b' d' h k = simp ring (omega (arith, simp ring at (mul-le-mul_right (d * d') h), simp ring at (mul-le-mul_right (c * c') k)))

-- ---- A PRODUCT by at most 1 is at most the other factor
pub mul_to_left : (f : Format) (x y : Float) → T (unsigned x) → T (unsigned y) → T (fits f x) → num y ≤ den y → T (le (mul f x y) x)
mul_to_left f x y u v t h =
    subst (λ (z : Float). T (le z x)) (sym (mul_is f x y u v))
    (round_at_most f x (num x * num y) (den x * den y) u t (mul-pos (den_pos x) (den_pos y)) (core (num x) (den x) (num y) (den y) h))
  where
    core : (a c b d : ℕ) → b ≤ d → a * b * c ≤ a * (c * d)
    core a c b d h = omega (arith, mul-le-mul_right (a * c) h)

pub mul_unsigned : (f : Format) (x y hi : Float) → T (unsigned x) → T (unsigned y) → T (finite hi) → T (le (mul f x y) hi) → T (unsigned (mul f x y))
mul_unsigned f x y hi u v t h =
    let e = mul_is f x y u v in
    subst (λ (z : Float). T (unsigned z)) (sym e) (round_unsigned f (num x * num y) (den x * den y) hi t (subst (λ (z : Float). T (le z hi)) e h))

-- ---- A QUOTIENT of x by t is at most q where x ≤ q t
pub div_at_most : (f : Format) (x t q : Float) → T (unsigned x) → T (positive t) → T (unsigned q) → T (fits f q) → num x * den t * den q ≤ num q * (num t * den x) → T (le (div f x t) q)
div_at_most f x t q u p v k h =
    subst (λ (z : Float). T (le z q)) (sym (div_is f x t u p)) (round_at_most f q (num x * den t) (num t * den x) v k (mul-pos (positive_num t p) (den_pos x)) h)

-- and at least q where q t ≤ x
pub div_at_least : (f : Format) (x t q : Float) → T (unsigned x) → T (positive t) → T (unsigned q) → T (fits f q) → num q * (num t * den x) ≤ num x * den t * den q → T (le q (div f x t))
div_at_least f x t q u p v k h =
    subst (λ (z : Float). T (le q z)) (sym (div_is f x t u p)) (round_at_least f q (num x * den t) (num t * den x) v k (mul-pos (positive_num t p) (den_pos x)) h)

-- nothing, divided, is the rounding of nothing
pub div_nothing : (f : Format) (x t : Float) → T (unsigned x) → num x ≡ 0 → T (positive t) → div f x t ≡ round f false 0 1
div_nothing f x t u e p = div_is f x t u p ∙ round_same f false (num x * den t) (num t * den x) 0 1 (mul-pos (positive_num t p) (den_pos x)) (lit< tt) (rw e (core (den t) (num t * den x)))
  where
    core : (d c : ℕ) → 0 * d * 1 ≡ 0 * c
    core d c = omega arith

pub div_unsigned : (f : Format) (x t hi : Float) → T (unsigned x) → T (positive t) → T (finite hi) → T (le (div f x t) hi) → T (unsigned (div f x t))
div_unsigned f x t hi u p k h =
    let e = div_is f x t u p in
    subst (λ (z : Float). T (unsigned z)) (sym e) (round_unsigned f (num x * den t) (num t * den x) hi k (subst (λ (z : Float). T (le z hi)) e h))

-- ---- A PRODUCT grows with its first factor, and a quotient with what is divided
-- The roundings of a / c and a' / c', both times b / d.
scaled_mono : (f : Format) (a c a' c' b d : ℕ) → 0 < c → 0 < c' → 0 < d → a * c' ≤ a' * c → T (le (round f false (a * b) (d * c)) (round f false (a' * b) (d * c')))
scaled_mono f a c a' c' b d p q r h = round_mono f (a * b) (d * c) (a' * b) (d * c') (mul-pos r p) (mul-pos r q) (simp ring (omega (arith, simp ring at (mul-le-mul_right (b * d) h))))

pub mul_mono : (f : Format) (x x' y : Float) → T (unsigned x) → T (unsigned x') → T (unsigned y) → T (le x x') → T (le (mul f x y) (mul f x' y))
mul_mono f x x' y u u' v h =
    rw (mul_is f x y u v, mul_is f x' y u' v, mul_comm (den x) (den y), mul_comm (den x') (den y))
    (scaled_mono f (num x) (den x) (num x') (den x') (num y) (den y) (den_pos x) (den_pos x') (den_pos y) (le_cross x x' u u' h))

pub div_mono : (f : Format) (x x' t : Float) → T (unsigned x) → T (unsigned x') → T (positive t) → T (le x x') → T (le (div f x t) (div f x' t))
div_mono f x x' t u u' p h =
    rw (div_is f x t u p, div_is f x' t u' p)
    (scaled_mono f (num x) (den x) (num x') (den x') (den t) (num t) (den_pos x) (den_pos x') (positive_num t p) (le_cross x x' u u' h))
