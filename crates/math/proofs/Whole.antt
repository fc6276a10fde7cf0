-- FLOATS THAT HOLD A WHOLE NUMBER: which float it is, the sum of two, and how a finite float compares with one. Assumes nothing.
use mathlib.Core.Path.{◌≡◌, refl, sym, ap, ◌∙◌, subst}
use mathlib.Core.Bool.{Bool, true, false, cond, false≢true, true≢false}
use Prim.Native.Nat.{ℕ, zero, suc, ◌+◌, ◌-◌, ◌*◌, ◌≤◌, ◌<◌}
use native.Mathlib.Nat.{mul-one, mul_comm, mul_assoc, mul_right_comm, add-mul, mul-sub, mul-pos, mul-le-mul_right, mul-lt-mul_of_pos_right, le_of_mul-le-mul_right, lt_of_mul-lt-mul_right, lt_irrefl, zero-mul, zero-lt-suc}
use native.Mathlib.Omega.{arith}
use lib.Dec.{T, ltb}
use lib.IntN.{ℤ, pos, negsuc, neg_ℤ, nat_abs, ◌+ℤ◌}
use lib.Ieee.{Float, nan, inf, fin, binary32, up, down, round, sum, add, of_int, lt, fits}
use lib.Ieee.Fits.{down_pos}
use lib.Ieee.Exact.{HasValue}
use lib.Ieee.Back.{round_whole, whole_unique}
use lib.Ieee.Scale.{round_same}
use borrow.Author.Tests.{ltb-true, ltb-false, lt-ltb, le-ltb}

abbrev pub negative : ℤ → Bool
negative (pos n) = false
negative (negsuc n) = true

-- x holds z, and a zero has no sign
abbrev pub Whole : Float → ℤ → Type 0
Whole x z = HasValue x (negative z) (nat_abs z) 1

pub of_int_lem : (z : ℤ) → nat_abs z ≤ 16777216 → Whole (of_int binary32 z) z
unfolding of_int
of_int_lem (pos n) h = round_whole binary32 false n h
of_int_lem (negsuc n) h = round_whole binary32 true (suc n) h

pub one_float : (x y : Float) (z : ℤ) → T (fits binary32 x) → T (fits binary32 y) → Whole x z → Whole y z → x ≡ y
one_float x y z = whole_unique binary32 x y (negative z) (nat_abs z)

-- ---- the sum of two, as fractions over c
minus_times : (a b c : ℕ) → b * c - a * c ≡ (b - a) * c
minus_times a b c = sym (mul_comm (b - a) c ∙ mul-sub c b a ∙ ap (λ (n : ℕ). n - c * a) (mul_comm c b) ∙ ap (λ (n : ℕ). b * c - n) (mul_comm c a))

module _ (c : ℕ) (h : 0 < c) where
  plus : (s : Bool) (a b : ℕ) → round binary32 s (a * c + b * c) c ≡ round binary32 s (a + b) 1
  plus s a b = round_same binary32 s (a * c + b * c) c (a + b) 1 h (zero-lt-suc 0) (mul-one (a * c + b * c) ∙ sym (add-mul a b c))

  minus : (s : Bool) (a b : ℕ) → round binary32 s (b * c - a * c) c ≡ round binary32 s (b - a) 1
  minus s a b = round_same binary32 s (b * c - a * c) c (b - a) 1 h (zero-lt-suc 0) (mul-one (b * c - a * c) ∙ minus_times a b c)

  less : (a b : ℕ) → a < b → ltb (a * c) (b * c) ≡ true
  less a b l = lt-ltb (a * c) (b * c) (mul-lt-mul_of_pos_right l h)

  not_less : (a b : ℕ) → b ≤ a → ltb (a * c) (b * c) ≡ false
  not_less a b l = le-ltb (a * c) (b * c) (mul-le-mul_right c l)

  -- a and -b, and the other way round
  down_from : (a b : ℕ) → sum binary32 false (a * c) true (suc b * c) c ≡ of_int binary32 (pos a +ℤ negsuc b)
  unfolding sum of_int
  down_from a b = go (ltb a (suc b)) refl
    where
      part : a < suc b → suc b - a ≡ suc (suc b - suc a)
      part l = omega arith

      go : (t : Bool) → ltb a (suc b) ≡ t → sum binary32 false (a * c) true (suc b * c) c ≡ of_int binary32 (cond t (negsuc (suc b - suc a)) (pos (a - suc b)))
      go true e = let l = ltb-true a (suc b) e in simp (less a (suc b) l) (minus true a (suc b) ∙ ap (λ (n : ℕ). round binary32 true n 1) (part l))
      go false e = let l = ltb-false a (suc b) e in simp (not_less a (suc b) l) (minus false (suc b) a)

  up_from : (a b : ℕ) → sum binary32 true (suc a * c) false (b * c) c ≡ of_int binary32 (negsuc a +ℤ pos b)
  unfolding sum of_int
  up_from a b = go (ltb b (suc a)) refl (ltb (suc a) b) refl
    where
      part : b < suc a → suc a - b ≡ suc (suc a - suc b)
      part l = omega arith

      none : b ≤ suc a → suc a ≤ b → suc a - b ≡ b - suc a
      none k l = omega arith

      go : (t : Bool) → ltb b (suc a) ≡ t → (u : Bool) → ltb (suc a) b ≡ u → sum binary32 true (suc a * c) false (b * c) c ≡ of_int binary32 (cond t (negsuc (suc a - suc b)) (pos (b - suc a)))
      go true e u d = let l = ltb-true b (suc a) e in simp (less b (suc a) l, not_less (suc a) b (omega arith)) (minus true b (suc a) ∙ ap (λ (n : ℕ). round binary32 true n 1) (part l))
      go false e true d = simp (less (suc a) b (ltb-true (suc a) b d)) (minus false (suc a) b)
      go false e false d =
          let k = ltb-false (suc a) b d in
          let l = ltb-false b (suc a) e in
          simp (not_less (suc a) b k, not_less b (suc a) l) (minus false b (suc a) ∙ ap (λ (n : ℕ). round binary32 false n 1) (none k l))

  both : (a b : ℤ) → sum binary32 (negative a) (nat_abs a * c) (negative b) (nat_abs b * c) c ≡ of_int binary32 (a +ℤ b)
  both (pos a) (pos b) = unfold sum of_int in plus false a b
  both (pos a) (negsuc b) = down_from a b
  both (negsuc a) (pos b) = up_from a b
  both (negsuc a) (negsuc b) = unfold sum of_int in plus true (suc a) (suc b) ∙ ap (λ (n : ℕ). round binary32 true n 1) (two a b)
    where
      two : (a b : ℕ) → suc a + suc b ≡ suc (suc (a + b))
      two a b = omega arith

-- THE SUM of two floats that hold whole numbers is their sum, rounded
pub sum_whole : (x y : Float) (a b : ℤ) → Whole x a → Whole y b → add binary32 x y ≡ of_int binary32 (a +ℤ b)
sum_whole nan y a b v w = absurd v
sum_whole (inf s) y a b v w = absurd v
sum_whole (fin s m e) nan a b v w = absurd w
sum_whole (fin s m e) (inf t) a b v w = absurd w
sum_whole (fin s m e) (fin t n d) a b v w =
    let c = down e * down d in
    let p : m * up e * down d ≡ nat_abs a * c = ap (λ (k : ℕ). k * down d) (sym (mul-one (m * up e)) ∙ v.1) ∙ mul_assoc (nat_abs a) (down e) (down d) in
    let q : n * up d * down e ≡ nat_abs b * c = ap (λ (k : ℕ). k * down e) (sym (mul-one (n * up d)) ∙ w.1) ∙ mul_right_comm (nat_abs b) (down d) (down e) ∙ mul_assoc (nat_abs b) (down e) (down d) in
    is
    ∙ ap (λ (u : Bool). sum binary32 u (m * up e * down d) t (n * up d * down e) c) v.0
    ∙ ap (λ (u : Bool). sum binary32 (negative a) (m * up e * down d) u (n * up d * down e) c) w.0
    ∙ ap (λ (k : ℕ). sum binary32 (negative a) k (negative b) (n * up d * down e) c) p
    ∙ ap (λ (k : ℕ). sum binary32 (negative a) (nat_abs a * c) (negative b) k c) q
    ∙ both c (mul-pos (down_pos e) (down_pos d)) a b
  where
    is : add binary32 (fin s m e) (fin t n d) ≡ sum binary32 s (m * up e * down d) t (n * up d * down e) (down e * down d)
    is = unfold add in refl

-- ---- a number of the size n / d against a float that holds a whole number of the size q: multiplied out by d' > 0
module _ (n d q u d' : ℕ) (h : 0 < d') (v : u * 1 ≡ q * d') where
  turned : u * d ≡ q * d * d'
  turned = ap (λ (k : ℕ). k * d) (sym (mul-one u) ∙ v) ∙ mul_right_comm q d' d

  under : n * d' < u * d → n < q * d
  under k = lt_of_mul-lt-mul_right d' (subst (λ (y : ℕ). n * d' < y) turned k)

  over : u * d < n * d' → q * d < n
  over k = lt_of_mul-lt-mul_right d' (subst (λ (y : ℕ). y < n * d') turned k)

  at_most : n * d' ≤ u * d → n ≤ q * d
  at_most k = le_of_mul-le-mul_right (subst (λ (y : ℕ). n * d' ≤ y) turned k) h

  at_least : u * d ≤ n * d' → q * d ≤ n
  at_least k = le_of_mul-le-mul_right (subst (λ (y : ℕ). y ≤ n * d') turned k) h

pub below_whole : (m : ℕ) (e : ℤ) (y : Float) (q : ℕ) → Whole y (pos q) → lt (fin false m e) y ≡ true → m * up e < q * down e
unfolding lt
below_whole m e nan q v h = absurd v
below_whole m e (inf t) q v h = absurd v
below_whole m e (fin true n d) q v h = absurd (true≢false v.0)
below_whole m e (fin false n d) q v h = under (m * up e) (down e) q (n * up d) (down d) (down_pos d) v.1 (ltb-true (m * up e * down d) (n * up d * down e) h)

pub from_whole : (m : ℕ) (e : ℤ) (y : Float) (q : ℕ) → Whole y (pos q) → lt (fin false m e) y ≡ false → q * down e ≤ m * up e
unfolding lt
from_whole m e nan q v h = absurd v
from_whole m e (inf t) q v h = absurd v
from_whole m e (fin true n d) q v h = absurd (true≢false v.0)
from_whole m e (fin false n d) q v h = at_least (m * up e) (down e) q (n * up d) (down d) (down_pos d) v.1 (ltb-false (m * up e * down d) (n * up d * down e) h)

-- the same of -n / d and -q
some : (n d d' u : ℕ) → u * 1 ≡ 0 * d' → 0 < n * d' + u * d → 0 * d < n
some zero d d' u v k =
    let z : u ≡ 0 = omega arith in
    absurd (lt_irrefl 0 (subst (λ (y : ℕ). 0 < y) (simp (z, zero-mul)) k))
some (suc n) d d' u v k = omega arith

none : (n d d' u : ℕ) → 0 < d' → n * d' + u * d ≤ 0 → n ≤ 0 * d
none n d d' u h k = subst (λ (y : ℕ). n ≤ y) (sym (zero-mul d)) (le_of_mul-le-mul_right (omega arith) h)

pub below_minus : (m : ℕ) (e : ℤ) (y : Float) (q : ℕ) → Whole y (neg_ℤ (pos q)) → lt (fin true m e) y ≡ true → q * down e < m * up e
unfolding lt
below_minus m e nan q v h = absurd v
below_minus m e (inf t) q v h = absurd v
below_minus m e (fin false n d) zero v h = some (m * up e) (down e) (down d) (n * up d) v.1 (ltb-true 0 (m * up e * down d + n * up d * down e) h)
below_minus m e (fin true n d) zero v h = absurd (true≢false v.0)
below_minus m e (fin false n d) (suc q) v h = absurd (false≢true v.0)
below_minus m e (fin true n d) (suc q) v h = over (m * up e) (down e) (suc q) (n * up d) (down d) (down_pos d) v.1 (ltb-true (n * up d * down e) (m * up e * down d) h)

pub from_minus : (m : ℕ) (e : ℤ) (y : Float) (q : ℕ) → Whole y (neg_ℤ (pos q)) → lt (fin true m e) y ≡ false → m * up e ≤ q * down e
unfolding lt
from_minus m e nan q v h = absurd v
from_minus m e (inf t) q v h = absurd v
from_minus m e (fin false n d) zero v h = none (m * up e) (down e) (down d) (n * up d) (down_pos d) (ltb-false 0 (m * up e * down d + n * up d * down e) h)
from_minus m e (fin true n d) zero v h = absurd (true≢false v.0)
from_minus m e (fin false n d) (suc q) v h = absurd (false≢true v.0)
from_minus m e (fin true n d) (suc q) v h = at_most (m * up e) (down e) (suc q) (n * up d) (down d) (down_pos d) v.1 (ltb-false (n * up d * down e) (m * up e * down d) h)
