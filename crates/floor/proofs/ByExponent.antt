-- THE THREE LAWS OF THE FLOOR, by the exponent of a bit pattern: below 0, from 0 to 22, and from 23 on. They hold for every pattern, a NaN's too. Assumes nothing.
use mathlib.Core.Path.{◌≡◌, refl, sym, ap, ◌∙◌, subst}
use mathlib.Core.Bool.{Bool, true, false, cond, not, ◌&&◌, false≢true, true≢false}
use Prim.Native.Nat.{ℕ, zero, suc, ◌+◌, ◌-◌, ◌*◌, ◌/◌, ◌%◌, ◌^◌, ◌≤◌, ◌<◌}
use native.Mathlib.Nat.{add-zero, zero-mul, mul_right_comm, mul-pos, mul-le-mul, mul-le-mul_right, mul-lt-mul_of_pos_right, lt_of_mul-lt-mul_right, le_of_mul-le-mul_right, mod-lt, div-le_self, div-eq_of_lt, div-add-mod', zero-lt-suc, le_trans}
use native.Mathlib.Omega.{arith}
use lib.Dec.{T, eqb, ltb}
use lib.IntN.{ℤ, pos, negsuc, nat_abs, sub_ℕ}
use lib.Pow.{pow_pos, pow_mono}
use lib.Ieee.{Float, nan, inf, fin, binary32, up, down, of_fields, of_bits, of_int, neg, sub, lt, ne, fits}
use lib.Ieee.Fits.{up_pos, down_pos, of_int-fits}
use lib.Ieee.Exact.{HasValue}
use lib.Ieee.Bits.{of_bits-fits}
use lib.Ieee.Nearest.{div_same}
use lib.Ieee.Compare.{differs_from_itself}
use borrow.Author.Tests.{eqb-true, eqb-false, ltb-true, ltb-false, lt-ltb, le-ltb}
use Rattle.exact.specs.Fraction.{floorℚ}
use Rattle.exact.specs.Value.{value}
use Rattle.exact.specs.Binary32.{◌⊖◌, bits, zero₃₂, one₃₂}
use Rattle.floor.specs.Formula.{floor_of}
use Rattle.floor.specs.Exponent.{exponent, set, cleared, small_floor, cut_floor, at_exponent, by_exponent}
use Rattle.math.proofs.Whole.{Whole, negative, of_int_lem, one_float, sum_whole}
use Rattle.floor.proofs.FloorExact.{floor_zero, minus_over, floor_large}
use Rattle.floor.proofs.Patterns.{sign, field, digits, bits_is, normal_value, small_value, cut_value, low_digits, cleared_value, weight_is}

-- ---- the test of the sign
pub not_below : (m : ℕ) (e : ℤ) → lt (fin false m e) zero₃₂ ≡ false
unfolding lt of_bits
not_below m e = le-ltb (m * up e * 1) (0 * 1 * down e) (none (m * up e) (down e))
  where
    none : (n d : ℕ) → 0 * 1 * d ≤ n * 1
    none n d = omega arith

pub below : (m : ℕ) (e : ℤ) → lt (fin true (suc m) e) zero₃₂ ≡ true
unfolding lt of_bits
below m e = lt-ltb 0 (suc m * up e * 1 + 0 * 1 * down e) (some (suc m * up e) (down e) (mul-pos (zero-lt-suc m) (up_pos e)))
  where
    some : (n d : ℕ) → 0 < n → 0 < n * 1 + 0 * 1 * d
    some n d h = omega arith

zero_not_below : (e : ℤ) → lt (fin true 0 e) zero₃₂ ≡ false
unfolding lt of_bits
zero_not_below e = le-ltb 0 (0 * up e * 1 + 0 * 1 * down e) (none (up e) (down e))
  where
    none : (u d : ℕ) → 0 * u * 1 + 0 * 1 * d ≤ 0
    none u d = omega arith

-- ---- n / d, where it is a / c: between the same whole numbers
module _ (n d a c : ℕ) (D : 0 < d) (C : 0 < c) (v : n * c ≡ a * d) where
  over : (q : ℕ) → q * c < a → q * d < n
  over q h = lt_of_mul-lt-mul_right c (subst (λ (y : ℕ). y < n * c) (mul_right_comm q c d) (subst (λ (y : ℕ). q * c * d < y) (sym v) (mul-lt-mul_of_pos_right h D)))

  from : (q : ℕ) → q * c ≤ a → q * d ≤ n
  from q h = le_of_mul-le-mul_right (subst (λ (y : ℕ). y ≤ n * c) (mul_right_comm q c d) (subst (λ (y : ℕ). q * c * d ≤ y) (sym v) (mul-le-mul_right d h))) C

  to : (q : ℕ) → a ≤ q * c → n ≤ q * d
  to q h = le_of_mul-le-mul_right (subst (λ (y : ℕ). n * c ≤ y) (mul_right_comm q c d) (subst (λ (y : ℕ). y ≤ q * c * d) (sym v) (mul-le-mul_right d h))) C

-- ---- the floor of what has the value a / c, or -a / c: the whole number, and the float
pub whole_of : (x : Float) (a c : ℕ) → 0 < c → HasValue x false a c → floorℚ (value x) ≡ pos (a / c)
unfolding value
whole_of nan a c C v = absurd v
whole_of (inf t) a c C v = absurd v
whole_of (fin true m e) a c C (s, v) = absurd (true≢false s)
whole_of (fin false m e) a c C (s, v) = ap pos (div_same (m * up e) (down e) a c (down_pos e) C v)

pub whole_of_minus : (x : Float) (a c q : ℕ) → 0 < c → HasValue x true a c → q * c < a → a ≤ suc q * c → floorℚ (value x) ≡ negsuc q
unfolding value
whole_of_minus nan a c q C v l h = absurd v
whole_of_minus (inf t) a c q C v l h = absurd v
whole_of_minus (fin false m e) a c q C (s, v) l h = absurd (false≢true s)
whole_of_minus (fin true m e) a c q C (s, v) l h = minus_over (m * up e) (down e) q (over (m * up e) (down e) a c (down_pos e) C v q l) (to (m * up e) (down e) a c (down_pos e) C v (suc q) h)

floor_is : (x : Float) (s : Bool) (a c : ℕ) (z : ℤ) → HasValue x s a c → floorℚ (value x) ≡ z → floor_of x ≡ of_int binary32 z
unfolding floor_of
floor_is nan s a c z v e = absurd v
floor_is (inf t) s a c z v e = absurd v
floor_is (fin t m k) s a c z v e = ap (λ (y : ℤ). of_int binary32 y) e

floor_of_lem : (x : Float) (a c : ℕ) → 0 < c → HasValue x false a c → floor_of x ≡ of_int binary32 (pos (a / c))
floor_of_lem x a c C v = floor_is x false a c (pos (a / c)) v (whole_of x a c C v)

floor_of_minus : (x : Float) (a c q : ℕ) → 0 < c → HasValue x true a c → q * c < a → a ≤ suc q * c → floor_of x ≡ of_int binary32 (negsuc q)
floor_of_minus x a c q C v l h = floor_is x true a c (negsuc q) v (whole_of_minus x a c q C v l h)

sign_is : (x : Float) (s : Bool) (a c : ℕ) → 0 < a → HasValue x s a c → lt x zero₃₂ ≡ s
sign_is nan s a c A v = absurd v
sign_is (inf t) s a c A v = absurd v
sign_is (fin false m e) s a c A (i, v) = not_below m e ∙ i
sign_is (fin true zero e) s a c A (i, v) = absurd (none (up e) (a * down e) (mul-pos A (down_pos e)) v)
  where
    none : (u n : ℕ) → 0 < n → 0 * u * c ≡ n → ⊥
    none u n h k = omega (arith, zero-mul c)
sign_is (fin true (suc m) e) s a c A (i, v) = below m e ∙ i

-- ---- an exponent below 0: a size below 1
a_zero : (x : Float) (s : Bool) (c : ℕ) → 0 < c → HasValue x s 0 c → (lt x zero₃₂ ≡ false) × (floor_of x ≡ of_int binary32 (pos 0))
a_zero nan s c C v = absurd v
a_zero (inf t) s c C v = absurd v
a_zero (fin false zero e) s c C v = (not_below 0 e, floor_zero false e)
a_zero (fin true zero e) s c C v = (zero_not_below e, floor_zero true e)
a_zero (fin t (suc m) e) s c C v = absurd (some (suc m * up e * c) (down e) (mul-pos (mul-pos (zero-lt-suc m) (up_pos e)) C) v.1)
  where
    some : (n d : ℕ) → 0 < n → n ≡ 0 * d → ⊥
    some n d h k = omega arith

whole_zero : of_int binary32 (pos 0) ≡ zero₃₂
whole_zero = unfold of_int of_bits in refl

minus_one : of_int binary32 (negsuc 0) ≡ neg one₃₂
minus_one = unfold of_int of_bits neg in refl

less_than_one : (x : Float) (s : Bool) (a c : ℕ) → a < c → HasValue x s a c → floor_of x ≡ cond (lt x zero₃₂) (neg one₃₂) zero₃₂
less_than_one x s zero c h v = simp (a_zero x s c h v).0 ((a_zero x s c h v).1 ∙ whole_zero)
less_than_one x false (suc a) c h v = simp (sign_is x false (suc a) c (zero-lt-suc a) v) (floor_of_lem x (suc a) c (omega arith) v ∙ ap (λ (q : ℕ). of_int binary32 (pos q)) (div-eq_of_lt h) ∙ whole_zero)
less_than_one x true (suc a) c h v = simp (sign_is x true (suc a) c (zero-lt-suc a) v) (floor_of_minus x (suc a) c 0 (omega arith) v (omega arith) (omega arith) ∙ minus_one)

-- ---- an exponent from 0 to 22: y is what the digits are with those below the point cleared
whole_is : (y : Float) (z : ℤ) → nat_abs z ≤ 2 ^ 24 → T (fits binary32 y) → Whole y z → of_int binary32 z ≡ y
whole_is y z h f v = one_float (of_int binary32 z) y z (of_int-fits binary32 z) f (of_int_lem z h) v

module _ (x y : Float) (a c : ℕ) (C : 0 < c) (F : T (fits binary32 y)) where
  cut_plus : a ≤ 2 ^ 24 → HasValue x false a c → HasValue y false (a / c) 1 → floor_of x ≡ y
  cut_plus h v w = floor_of_lem x a c C v ∙ whole_is y (pos (a / c)) (le_trans (div-le_self a c) h) F w

  cut_minus : (p : ℕ) → suc p ≤ 2 ^ 24 → HasValue x true a c → HasValue y true (suc p) 1 → (t : Bool) → eqb (a % c) 0 ≡ t → suc p * c + a % c ≡ a → floor_of x ≡ cond (not t) (y ⊖ one₃₂) y
  unfolding sub
  cut_minus p h v w true e k = floor_of_minus x a c p C v (omega (arith, eqb-true (a % c) 0 e)) (omega (arith, eqb-true (a % c) 0 e)) ∙ whole_is y (negsuc p) h F w
  cut_minus p h v w false e k =
      floor_of_minus x a c (suc p) C v (omega (arith, eqb-false (a % c) 0 e)) (omega (arith, mod-lt a C))
      ∙ sym (sum_whole y (neg one₃₂) (negsuc p) (negsuc 0) w one ∙ ap (λ (n : ℕ). of_int binary32 (negsuc (suc n))) (add-zero p))
    where
      one : Whole (neg one₃₂) (negsuc 0)
      one = unfold neg of_bits in (refl, refl)

  cut : (s : Bool) → a ≤ 2 ^ 24 → c ≤ a → HasValue x s a c → HasValue y s (a / c) 1 → floor_of x ≡ cond (lt x zero₃₂ && not (eqb (a % c) 0)) (y ⊖ one₃₂) y
  cut false h l v w = simp (sign_is x false a c (omega arith) v) (cut_plus h v w)
  cut true h l v w = simp (sign_is x true a c (omega arith) v) (go (a / c) w (le_trans (div-le_self a c) h) (div-add-mod' a c))
    where
      go : (q : ℕ) → HasValue y true q 1 → q ≤ 2 ^ 24 → q * c + a % c ≡ a → floor_of x ≡ cond (not (eqb (a % c) 0)) (y ⊖ one₃₂) y
      go zero w u k = absurd (omega (arith, mod-lt a C))
      go (suc p) w u k = cut_minus p u v w (eqb (a % c) 0) refl k

-- ---- an exponent of 23 or more: no digit below the point, or no number
special : (b : ℕ) → field b ≡ 255 → floor_of (bits b) ≡ bits b
unfolding of_fields floor_of
special b h = subst (λ (x : Float). floor_of x ≡ x) (sym (bits_is b ∙ ap (λ (f : ℕ). of_fields binary32 (sign b) f (b % 2 ^ 23)) h)) (go (eqb (b % 2 ^ 23) 0))
  where
    go : (t : Bool) → floor_of (cond t (inf (sign b)) nan) ≡ cond t (inf (sign b)) nan
    go true = refl
    go false = refl

large : (x : Float) (s : Bool) (a c : ℕ) → 0 < c → T (fits binary32 x) → HasValue x s a c → 2 ^ 23 * c ≤ a → floor_of x ≡ x
large nan s a c C f v h = absurd v
large (inf t) s a c C f v h = absurd v
large (fin t m e) s a c C f v h = sym (floor_large t m e f (from (m * up e) (down e) a c (down_pos e) C v.1 (2 ^ 23) h))

-- ---- by the field
pub by_field_small : (b : ℕ) → field b < 127 → floor_of (bits b) ≡ small_floor b
by_field_small b h = let w = small_value b h in less_than_one (bits b) (sign b) w.0 (2 ^ 149) w.2 w.1

pub by_field_cut : (b k : ℕ) → 0 < k → k ≤ 23 → field b + k ≡ 150 → floor_of (bits b) ≡ cut_floor k b
by_field_cut b k p h f =
    subst (λ (r : ℕ). floor_of (bits b) ≡ cond (lt (bits b) zero₃₂ && not (eqb r 0)) (bits (cleared k b) ⊖ one₃₂) (bits (cleared k b))) (low_digits b k h)
    (cut (bits b) (bits (cleared k b)) (digits b) (2 ^ k) (pow_pos k) (of_bits-fits binary32 (cleared k b)) (sign b) (omega arith) (le_trans (pow_mono h) (omega arith)) (cut_value b k p h f) (cleared_value b k p h f))

pub by_field_large : (b : ℕ) → 150 ≤ field b → floor_of (bits b) ≡ bits b
by_field_large b h = go (eqb (field b) 255) refl
  where
    go : (t : Bool) → eqb (field b) 255 ≡ t → floor_of (bits b) ≡ bits b
    go true e = special b (eqb-true (field b) 255 e)
    go false e =
        let k : 149 ≤ field b - 1 = omega arith in
        let l : 2 ^ 23 ≤ digits b = omega arith in
        large (bits b) (sign b) (digits b * 2 ^ (field b - 1)) (2 ^ 149) (pow_pos 149) (of_bits-fits binary32 b) (normal_value b (omega arith) (omega (arith, eqb-false (field b) 255 e))) (mul-le-mul l (pow_mono k))

-- ---- the field by the exponent
negative_field : (f n : ℕ) → sub_ℕ f 127 ≡ negsuc n → f < 127
negative_field f n = go (ltb f 127) refl
  where
    go : (t : Bool) → ltb f 127 ≡ t → cond t (negsuc (127 - suc f)) (pos (f - 127)) ≡ negsuc n → f < 127
    go true e h = ltb-true f 127 e
    go false e h = absurd (false≢true (ap negative h))

field_is : (f e : ℕ) → sub_ℕ f 127 ≡ pos e → f ≡ 127 + e
field_is f e = go (ltb f 127) refl
  where
    go : (t : Bool) → ltb f 127 ≡ t → cond t (negsuc (127 - suc f)) (pos (f - 127)) ≡ pos e → f ≡ 127 + e
    go true i h = absurd (true≢false (ap negative h))
    go false i h =
        let k : f - 127 ≡ e = ap nat_abs h in
        omega (arith, ltb-false f 127 i)

-- ---- THE LAWS
-- below 0: -1 for a number below 0, otherwise +0
pub floor_below_0 : (b n : ℕ) → exponent b ≡ negsuc n → floor_of (bits b) ≡ small_floor b
floor_below_0 b n h = by_field_small b (negative_field (field b) n h)

-- from 0 to 22: the low 23 - e bits of the fraction cleared, less 1 where the number is below 0 and one of them was set
pub floor_0_to_22 : (b e : ℕ) → exponent b ≡ pos e → e ≤ 22 → floor_of (bits b) ≡ cut_floor (23 - e) b
floor_0_to_22 b e h l = by_field_cut b (23 - e) (omega arith) (omega arith) (omega (arith, field_is (field b) e h))

-- from 23 on: the number itself
pub floor_from_23 : (b e : ℕ) → exponent b ≡ pos e → 23 ≤ e → floor_of (bits b) ≡ bits b
floor_from_23 b e h l = by_field_large b (omega (arith, field_is (field b) e h))

-- the three in one
pub floor_by_exponent : (b : ℕ) → floor_of (bits b) ≡ by_exponent b
unfolding by_exponent
floor_by_exponent b = go (exponent b) refl
  where
    go : (z : ℤ) → exponent b ≡ z → floor_of (bits b) ≡ at_exponent z b
    go (negsuc n) h = floor_below_0 b n h
    go (pos e) h = at (ltb e 23) refl
      where
        at : (t : Bool) → ltb e 23 ≡ t → floor_of (bits b) ≡ cond t (cut_floor (23 - e) b) (bits b)
        at true i = floor_0_to_22 b e h (omega (arith, ltb-true e 23 i))
        at false i = floor_from_23 b e h (ltb-false e 23 i)

-- ---- the same as the code has them: of an x by its pattern
pub nan_at : (x : Float) → ne x x ≡ true → x ≡ floor_of x
unfolding floor_of
nan_at x h = subst (λ (y : Float). y ≡ floor_of y) (sym (differs_from_itself x (subst T (sym h) tt))) refl

module _ (x : Float) (b : ℕ) (i : bits b ≡ x) where
  abbrev weight : ℕ
  weight = 2 ^ 23 / 2 ^ (field b - 127)

  pub small_at : field b < 127 → (t : Bool) → lt x zero₃₂ ≡ t → cond t (neg one₃₂) zero₃₂ ≡ floor_of x
  small_at h t e = sym (subst (λ (y : Float). floor_of y ≡ cond (lt y zero₃₂) (neg one₃₂) zero₃₂) i (by_field_small b h) ∙ ap (λ (n : Bool). cond n (neg one₃₂) zero₃₂) e)

  pub cut_at : 127 ≤ field b → field b < 150 → (t u : Bool) → lt x zero₃₂ ≡ t → eqb (b % weight) 0 ≡ u → cond (t && not u) (bits (b - b % weight) ⊖ one₃₂) (bits (b - b % weight)) ≡ floor_of x
  cut_at l h t u e g =
      let k = 23 - (field b - 127) in
      sym
      (subst (λ (p : ℕ). floor_of x ≡ cond (lt x zero₃₂ && not (eqb (b % p) 0)) (bits (b - b % p) ⊖ one₃₂) (bits (b - b % p))) (sym (weight_is (field b - 127) (omega arith)))
      (subst (λ (y : Float). floor_of y ≡ cond (lt y zero₃₂ && set k b) (bits (cleared k b) ⊖ one₃₂) (bits (cleared k b))) i (by_field_cut b k (omega arith) (omega arith) (omega arith)))
      ∙ ap (λ (n : Bool). chosen n (not (eqb (b % weight) 0))) e
      ∙ ap (λ (n : Bool). chosen t (not n)) g)
    where
      chosen : Bool → Bool → Float
      chosen n l = cond (n && l) (bits (b - b % weight) ⊖ one₃₂) (bits (b - b % weight))

  pub large_at : 150 ≤ field b → x ≡ floor_of x
  large_at h = sym (subst (λ (y : Float). floor_of y ≡ y) i (by_field_large b h))
