-- THE FLOOR BY ROUNDING IS THE FLOOR: near 0, beyond that, and from 2 ^ 23 on. So it is the floor by the exponent: the two are one. Assumes nothing.
use mathlib.Core.Path.{◌≡◌, refl, sym, ap, ◌∙◌, subst}
use mathlib.Core.Bool.{Bool, true, false, cond, ◌&&◌, false≢true}
use Prim.Native.Nat.{ℕ, zero, suc, ◌+◌, ◌-◌, ◌*◌, ◌≤◌, ◌<◌}
use native.Mathlib.Nat.{mul-one, zero-mul, mul-pos, add-zero, div-eq_of_lt-le, le_trans, zero-lt-suc}
use native.Mathlib.Omega.{arith}
use lib.Dec.{T, lit≤}
use lib.IntN.{ℤ, pos, negsuc, neg_ℤ, nat_abs, ◌+ℤ◌, +ℤ_idr}
use lib.Ieee.{Float, nan, inf, fin, binary32, up, down, of_bits, to_bits, round, sum, add, of_int, neg, sub, lt, fits}
use lib.Ieee.Fits.{up_pos, down_pos}
use lib.Ieee.Back.{whole_unique}
use lib.Ieee.Bits.{of_bits-to_bits}
use borrow.Author.Tests.{ltb-true, ltb-false, le-ltb}
use Rattle.exact.specs.Value.{value}
use Rattle.exact.specs.Binary32.{◌⊕◌, ◌⊖◌, zero₃₂, one₃₂}
use Rattle.floor.specs.Formula.{floor_of}
use Rattle.floor.specs.Exponent.{by_exponent}
use Rattle.rounded_floor.specs.Rounding.{near, whole, centre, nearby_of, stepped_down, between, by_rounding}
use Rattle.math.proofs.Whole.{Whole, of_int_lem, sum_whole, below_whole, from_whole, below_minus, from_minus}
use Rattle.rounded_floor.proofs.NearWhole.{Nearby, near_positive, near_negative, centred_positive, centred_negative}
use Rattle.floor.proofs.FloorExact.{floor_minus, floor_large}
use Rattle.floor.proofs.ByExponent.{not_below, below, floor_by_exponent}

-- ---- from 2 ^ 23 on
left : (n d : ℕ) → 0 < d → n * 1 + 8388608 * d ≤ 0 → ⊥
left n d h l = omega arith

pub high : (x : Float) → T (fits binary32 x) → lt x whole ≡ false → x ≡ floor_of x
unfolding lt of_bits floor_of
high nan f h = refl
high (inf s) f h = refl
high (fin true m e) f h = absurd (left (m * up e) (down e) (down_pos e) (ltb-false 0 (m * up e * 1 + 8388608 * down e) h))
high (fin false m e) f h = floor_large false m e f (from_whole m e whole 8388608 (refl, refl) h)

pub low : (x : Float) → T (fits binary32 x) → lt (neg whole) x ≡ false → x ≡ floor_of x
unfolding lt neg of_bits floor_of
low nan f h = refl
low (inf s) f h = refl
low (fin true m e) f h = floor_large true m e f (subst (λ (n : ℕ). 8388608 * down e ≤ n) (mul-one (m * up e)) (ltb-false (m * up e * 1) (8388608 * down e) h))
low (fin false m e) f h = absurd (left (m * up e) (down e) (down_pos e) (omega (arith, ltb-false 0 (8388608 * down e + m * up e * 1) h)))

-- ---- between: y is the whole number near x, and t says whether x is below it
minus_one : (y : Float) (z : ℤ) → Whole y z → y ⊕ neg one₃₂ ≡ of_int binary32 (z +ℤ negsuc 0)
unfolding neg of_bits
minus_one y z v = sum_whole y (neg one₃₂) z (negsuc 0) v (refl, refl)

no_more : (y : Float) (z : ℤ) → Whole y z → y ⊕ zero₃₂ ≡ of_int binary32 z
unfolding of_bits
no_more y z v = sum_whole y zero₃₂ z (pos 0) v (refl, refl) ∙ ap (λ (k : ℤ). of_int binary32 k) (+ℤ_idr z)

less_one : (q : ℕ) → neg_ℤ (pos q) +ℤ negsuc 0 ≡ negsuc q
less_one zero = refl
less_one (suc q) = simp add-zero

one_less : (q : ℕ) → pos (suc q) +ℤ negsuc 0 ≡ pos q
one_less q =
    let h : 1 ≤ suc q = omega arith in
    let e : suc q - 1 ≡ q = omega arith in
    simp (le-ltb (suc q) 1 h, e)

holds : (y : Float) (z : ℤ) → nat_abs z ≤ 8388608 → y ≡ of_int binary32 z → Whole y z
holds y z h e = subst (λ (w : Float). Whole w z) (sym e) (of_int_lem z (le_trans h (lit≤ tt)))

minus_size : (q : ℕ) → nat_abs (neg_ℤ (pos q)) ≡ q
minus_size zero = refl
minus_size (suc q) = refl

-- y, or one less where x is below y
abbrev Stepped : Float → Float → Type 0
Stepped x y = (t : Bool) → lt x y ≡ t → y ⊕ cond t (neg one₃₂) zero₃₂ ≡ floor_of x

positive : (m : ℕ) (e : ℤ) (q : ℕ) (y : Float) → Nearby false (m * up e) (down e) q y → Stepped (fin false m e) y
unfolding floor_of value
positive m e q y w false h =
    let v = holds y (pos q) w.small w.is in
    no_more y (pos q) v ∙ ap (λ (k : ℕ). of_int binary32 (pos k)) (sym (div-eq_of_lt-le (down e) (from_whole m e y q v h) (omega (arith, w.over))))
positive m e zero y w true h = absurd (none (m * up e) (down e) (below_whole m e y 0 (holds y (pos 0) w.small w.is) h))
  where
    none : (n d : ℕ) → n < 0 * d → ⊥
    none n d h = omega arith
positive m e (suc q) y w true h =
    let v = holds y (pos (suc q)) w.small w.is in
    minus_one y (pos (suc q)) v
    ∙ ap (λ (z : ℤ). of_int binary32 z) (one_less q)
    ∙ ap (λ (k : ℕ). of_int binary32 (pos k)) (sym (div-eq_of_lt-le (down e) (omega (arith, w.under)) (omega (arith, below_whole m e y (suc q) v h))))

minus : (m : ℕ) (e : ℤ) (q : ℕ) (y : Float) → 0 < m * up e → Nearby true (m * up e) (down e) q y → Stepped (fin true m e) y
minus m e q y p w true h =
    let v = holds y (neg_ℤ (pos q)) (subst (λ (n : ℕ). n ≤ 8388608) (sym (minus_size q)) w.small) w.is in
    minus_one y (neg_ℤ (pos q)) v
    ∙ ap (λ (z : ℤ). of_int binary32 z) (less_one q)
    ∙ sym (floor_minus m e q (below_minus m e y q v h) (omega (arith, w.over)))
minus m e zero y p w false h = absurd (none (m * up e) (down e) p (from_minus m e y 0 (holds y (pos 0) w.small w.is) h))
  where
    none : (n d : ℕ) → 0 < n → n ≤ 0 * d → ⊥
    none n d i h = omega arith
minus m e (suc q) y p w false h =
    let v = holds y (negsuc q) w.small w.is in
    no_more y (negsuc q) v ∙ sym (floor_minus m e q (omega (arith, w.under)) (from_minus m e y (suc q) v h))

abbrev Floored : Float → Type 0
Floored x = Stepped x (nearby_of x)

-- -0 is written in one way
minus_zero : (e : ℤ) → T (fits binary32 (fin true 0 e)) → fin true 0 e ≡ fin true 0 (pos 0)
minus_zero e f = whole_unique binary32 (fin true 0 e) (fin true 0 (pos 0)) true 0 f (unfold fits in tt) (refl, simp zero-mul) (refl, refl)

at_minus_zero : Floored (fin true 0 (pos 0))
unfolding lt sub add neg sum round of_bits of_int floor_of value
at_minus_zero true h = absurd (false≢true h)
at_minus_zero false h = refl

near_is : (m : ℕ) (e : ℤ) → nearby_of (fin false m e) ≡ fin false m e ⊕ whole ⊖ whole
near_is m e = simp (not_below m e)

minus_near_is : (m : ℕ) (e : ℤ) → nearby_of (fin true (suc m) e) ≡ fin true (suc m) e ⊖ whole ⊕ whole
minus_near_is m e = simp (below m e)

pub within : (x : Float) → T (fits binary32 x) → lt x whole ≡ true → lt (neg whole) x ≡ true → Floored x
unfolding lt neg of_bits
within nan f h l = absurd (false≢true h)
within (inf true) f h l = absurd (false≢true l)
within (inf false) f h l = absurd (false≢true h)
within (fin false m e) f h l =
    let w = near_positive m e (below_whole m e whole 8388608 (refl, refl) h) in
    positive m e w.0 (nearby_of (fin false m e)) (subst (Nearby false (m * up e) (down e) w.0) (sym (near_is m e)) w.1)
within (fin true zero e) f h l = subst Floored (sym (minus_zero e f)) at_minus_zero
within (fin true (suc m) e) f h l =
    let n = suc m * up e in
    let w = near_negative (suc m) e (subst (λ (k : ℕ). k < 8388608 * down e) (mul-one n) (ltb-true (n * 1) (8388608 * down e) l)) in
    minus (suc m) e w.0 (nearby_of (fin true (suc m) e)) (mul-pos (zero-lt-suc m) (up_pos e)) (subst (Nearby true n (down e) w.0) (sym (minus_near_is m e)) w.1)

-- ---- by way of the centre
abbrev Centred : Float → Type 0
Centred x = Stepped x (x ⊕ centre ⊖ centre)

centred_minus_zero : Centred (fin true 0 (pos 0))
unfolding lt sub add neg sum round of_bits of_int floor_of value
centred_minus_zero true h = absurd (false≢true h)
centred_minus_zero false h = refl

pub around : (x : Float) → T (fits binary32 x) → lt x near ≡ true → lt (neg near) x ≡ true → Centred x
unfolding lt neg of_bits
around nan f h l = absurd (false≢true h)
around (inf true) f h l = absurd (false≢true l)
around (inf false) f h l = absurd (false≢true h)
around (fin false m e) f h l = let w = centred_positive m e (below_whole m e near 4194304 (refl, refl) h) in positive m e w.0 _ w.1
around (fin true zero e) f h l = subst Centred (sym (minus_zero e f)) centred_minus_zero
around (fin true (suc m) e) f h l =
    let n = suc m * up e in
    let z = mul-pos (zero-lt-suc m) (up_pos e) in
    let w = centred_negative (suc m) e z (subst (λ (k : ℕ). k < 4194304 * down e) (mul-one n) (ltb-true (n * 1) (4194304 * down e) l)) in
    minus (suc m) e w.0 _ z w.1

-- ---- all three: near 0, beyond, and x itself from 2 ^ 23 on
pub floor_by_rounding : (x : Float) → T (fits binary32 x) → floor_of x ≡ by_rounding x
unfolding by_rounding
floor_by_rounding x f = sym (go (lt x near) refl (lt (neg near) x) refl)
  where
    far : (t : Bool) → lt x whole ≡ t → (u : Bool) → lt (neg whole) x ≡ u → cond (t && u) (stepped_down x (nearby_of x)) x ≡ floor_of x
    far true h true l = within x f h l _ refl
    far true h false l = low x f l
    far false h u l = high x f h

    beyond : cond (between x whole) (stepped_down x (nearby_of x)) x ≡ floor_of x
    beyond = far (lt x whole) refl (lt (neg whole) x) refl

    go : (t : Bool) → lt x near ≡ t → (u : Bool) → lt (neg near) x ≡ u → cond (t && u) (stepped_down x (x ⊕ centre ⊖ centre)) (cond (between x whole) (stepped_down x (nearby_of x)) x) ≡ floor_of x
    go true h true l = around x f h l _ refl
    go true h false l = beyond
    go false h u l = beyond

-- THE TWO FLOORS ARE ONE
pub one_floor : (x : Float) → T (fits binary32 x) → by_rounding x ≡ by_exponent (to_bits binary32 x)
one_floor x f =
    sym (floor_by_rounding x f)
    ∙ subst (λ (y : Float). floor_of y ≡ by_exponent (to_bits binary32 x)) (of_bits-to_bits binary32 x f) (floor_by_exponent (to_bits binary32 x))
