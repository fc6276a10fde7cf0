-- A WHOLE NUMBER LESS THAN 1 AWAY FROM x: 2 ^ 23 added and taken off again, for an x between -2 ^ 23 and 2 ^ 23, or 3 * 2 ^ 22 for one between -2 ^ 22 and 2 ^ 22. Assumes nothing.
use mathlib.Core.Path.{◌≡◌, refl, sym, ap, ◌∙◌, subst}
use mathlib.Core.Bool.{Bool, true, false, cond}
use Prim.Native.Nat.{ℕ, zero, suc, ◌+◌, ◌-◌, ◌*◌, ◌/◌, ◌%◌, ◌^◌, ◌≤◌, ◌<◌, compare, Ordering}
use native.Mathlib.Nat.{mul-one, add-mul, mul_assoc, mul_right_comm, mul-le-mul_right, mul-lt-mul_of_pos_right, le_trans, lt_of_lt_of_le, lt_of_le_of_lt, lt_of_not-le, not-le_of_lt, mul-pos, div-add-mod', mod-lt, le_of_eq, le_of_lt, add-zero, zero-lt-suc, le-div_iff_mul-le, div-lt_iff_lt-mul}
use native.Mathlib.Numerals.{add-one}
use native.Mathlib.Omega.{arith}
use lib.Dec.{is_le, compare_is_eq, lit<}
use lib.IntN.{ℤ, pos, negsuc, neg_ℤ, sub_ℕ}
use lib.Pow.{pow_pos, pow_mono}
use lib.Ieee.{Float, fin, binary32, up, down, size, nearest, round, units, of_int, of_bits, neg, add, sub, sum}
use lib.Ieee.Digits.{size-lt, size-le}
use lib.Ieee.Fits.{down_pos, core, round_is, nearest-le}
use lib.Ieee.Exact.{HasValue, units_val}
use lib.Ieee.Nearest.{closest, closest_same, nearest-ge}
use borrow.Author.Tests.{leb-false, eqb-true, lt-ltb, le-ltb}
use Rattle.exact.specs.Binary32.{◌⊕◌, ◌⊖◌}
use Rattle.rounded_floor.specs.Rounding.{centre}
use Rattle.math.proofs.Whole.{sum_whole}
use Rattle.math.proofs.Digits.{step, cancel, minus_is, taken}

-- ---- the nearest whole number to a / d
abbrev Near : ℕ → ℕ → ℕ → Type 0
Near a d q = (a < q * d + d) × (q * d < a + d)

-- q whole and r over: q is near, and so is the next where r is above 0
same : (a d q r : ℕ) → q * d + r ≡ a → r < d → Near a d q
same a d q r e h = (omega arith, omega arith)

next : (a d q r : ℕ) → q * d + r ≡ a → r < d → 0 < r → Near a d (suc q)
next a d q r e h z = (omega arith, omega arith)

half : (r d : ℕ) → 0 < d → d ≤ r * 2 → 0 < r
half r d h k = omega arith

closest_near : (a d : ℕ) → 0 < d → Near a d (closest a d)
closest_near a d h = go (compare (a % d * 2) d) refl
  where
    e : a / d * d + a % d ≡ a
    e = div-add-mod' a d

    l : a % d < d
    l = mod-lt a h

    tie : (k : ℕ) → k < 2 → 0 < a % d → Near a d (a / d + k)
    tie zero s z = subst (Near a d) (sym (add-zero (a / d))) (same a d (a / d) (a % d) e l)
    tie (suc zero) s z = subst (Near a d) (sym (add-one (a / d))) (next a d (a / d) (a % d) e l z)
    tie (suc (suc k)) s z = absurd (omega arith)

    go : (o : Ordering) → compare (a % d * 2) d ≡ o → Near a d (nearest (a / d) o)
    go Ordering.lt c = same a d (a / d) (a % d) e l
    go Ordering.eq c = tie (a / d % 2) (mod-lt (a / d) (zero-lt-suc 1)) (half (a % d) d h (le_of_eq (sym (eqb-true (a % d * 2) d (ap compare_is_eq c)))))
    go Ordering.gt c = next a d (a / d) (a % d) e l (half (a % d) d h (le_of_lt (leb-false (a % d * 2) d (ap is_le c))))

closest_le : (a d : ℕ) → 0 < d → (k : ℕ) → a < k * d → closest a d ≤ k
closest_le a d h k l = le_trans (nearest-le (a / d) (compare (a % d * 2) d)) ((div-lt_iff_lt-mul h).1 l)

closest_ge : (a d : ℕ) → 0 < d → (k : ℕ) → k * d ≤ a → k ≤ closest a d
closest_ge a d h k l = le_trans ((le-div_iff_mul-le h).1 l) (nearest-ge (a / d) (compare (a % d * 2) d))

-- ---- a / d from 2 ^ 23 to 2 ^ 24 is rounded to its nearest whole number: p is the weight of the 149 digits that are dropped
module _ (a d p : ℕ) (h : 0 < p) where
  reaches : 8388608 * d ≤ a → 8388608 * p * d ≤ a * p
  reaches l = le_trans (le_of_eq (mul_right_comm 8388608 p d)) (mul-le-mul_right p l)

  stays : a < 16777216 * d → a * p < 16777216 * p * d
  stays l = lt_of_lt_of_le (mul-lt-mul_of_pos_right l h) (le_of_eq (mul_right_comm 16777216 d p))

module _ (a d : ℕ) (h : 0 < d) (lo : 8388608 * d ≤ a) (hi : a < 16777216 * d) where
  dropped : size (a * 2 ^ 149 / d) - 24 ≡ 149
  dropped = go (size w) (size-le w 173 ((div-lt_iff_lt-mul h).1 (stays a d (2 ^ 149) (pow_pos 149) hi))) (lt_of_not-le above)
    where
      w : ℕ
      w = a * 2 ^ 149 / d

      above : size w ≤ 172 → ⊥
      above k = not-le_of_lt (lt_of_lt_of_le (size-lt w) (pow_mono k)) ((le-div_iff_mul-le h).1 (reaches a d (2 ^ 149) (pow_pos 149) lo))

      go : (z : ℕ) → z ≤ 173 → 172 < z → z - 24 ≡ 149
      go z k l = omega arith

  rounded : (s : Bool) → round binary32 s a d ≡ units binary32 s (closest a d) 149
  rounded s =
      round_is binary32 s a d
      ∙ ap (λ (k : ℕ). core binary32 s (a * 2 ^ 149) d k) dropped
      ∙ ap (λ (q : ℕ). units binary32 s q 149) (closest_same (a * 2 ^ 149) (d * 2 ^ 149) a d (mul-pos h (pow_pos 149)) h (mul_right_comm a (2 ^ 149) d ∙ mul_assoc a d (2 ^ 149)))

  rounded_value : (s : Bool) → HasValue (round binary32 s a d) s (closest a d) 1
  rounded_value s =
      cancel (round binary32 s a d) s (closest a d) (2 ^ 149) (pow_pos 149)
      (subst (λ (y : Float). HasValue y s (closest a d * 2 ^ 149) (2 ^ 149)) (sym (rounded s))
      (units_val binary32 s (closest a d) 149 (lt_of_le_of_lt (mul-le-mul_right (2 ^ 149) (closest_le a d h 16777216 hi)) (lit< tt))))

-- ---- 2 ^ 23 taken off again: y is the whole number q, less than 1 away from n / d, with the sign s for both
pub record Nearby (s : Bool) (n d q : ℕ) (y : Float) : Type 0 where
  pub small : q ≤ 8388608
  pub over : n < q * d + d
  pub under : q * d < n + d
  pub is : y ≡ of_int binary32 (cond s (neg_ℤ (pos q)) (pos q))

moved : (w n d q r : ℕ) → q ≡ r + w → Near (n + w * d) d q → Near n d r
moved w n d q r e k =
    let m : q * d ≡ r * d + w * d = ap (λ (z : ℕ). z * d) e ∙ add-mul r w d in
    (omega arith, omega arith)

-- n and r taken off
mirrored : (w n d q r : ℕ) → n ≤ w * d → r + q ≡ w → Near (w * d - n) d q → Near n d r
mirrored w n d q r l e k =
    let m : r * d + q * d ≡ w * d = sym (add-mul r q d) ∙ ap (λ (z : ℕ). z * d) e in
    (omega arith, omega arith)

-- x is the sum with 2 ^ 23 of a number of the size n / d
from_sum : (s : Bool) (n d : ℕ) (x : Float) → 0 < d → n < 8388608 * d → x ≡ round binary32 s (n + 8388608 * d) d → (q : ℕ) × Nearby s n d q (cond s (x ⊕ step) (x ⊖ step))
from_sum s n d x h l e =
    let a = n + 8388608 * d in
    let Q = closest a d in
    let lo : 8388608 * d ≤ a = omega arith in
    let hi : a < 16777216 * d = omega arith in
    let ge = closest_ge a d h 8388608 lo in
    let k = moved 8388608 n d Q (Q - 8388608) (omega arith) (closest_near a d h) in (
      Q - 8388608,
      record {
        small = omega (arith, closest_le a d h 16777216 hi);
        over = k.0;
        under = k.1;
        is = taken s x Q ge (subst (λ (y : Float). HasValue y s Q 1) (sym e) (rounded_value a d h lo hi s));
      },
    )

pub near_positive : (m : ℕ) (e : ℤ) → m * up e < 8388608 * down e → (q : ℕ) × Nearby false (m * up e) (down e) q (fin false m e ⊕ step ⊖ step)
unfolding add sum of_bits
near_positive m e h = from_sum false (m * up e) (down e) (fin false m e ⊕ step) (down_pos e) h (simp mul-one)

pub near_negative : (m : ℕ) (e : ℤ) → m * up e < 8388608 * down e → (q : ℕ) × Nearby true (m * up e) (down e) q (fin true m e ⊖ step ⊕ step)
unfolding sub add neg sum of_bits
near_negative m e h = from_sum true (m * up e) (down e) (fin true m e ⊖ step) (down_pos e) h (simp mul-one)

-- ---- the same with 3 * 2 ^ 22, the middle between 2 ^ 23 and 2 ^ 24: both signs stay between those two
off : (x : Float) (Q : ℕ) → HasValue x false Q 1 → x ⊖ centre ≡ of_int binary32 (sub_ℕ Q 12582912)
unfolding sub neg of_bits
off x Q v = sum_whole x (neg centre) (pos Q) (negsuc 12582911) v (refl, refl)

pub centred_positive : (m : ℕ) (e : ℤ) → m * up e < 4194304 * down e → (q : ℕ) × Nearby false (m * up e) (down e) q (fin false m e ⊕ centre ⊖ centre)
centred_positive m e l =
    let d = down e in
    let h = down_pos e in
    let a = m * up e + 12582912 * d in
    let Q = closest a d in
    let hi : a < 16777216 * d = omega arith in
    let ge = closest_ge a d h 12582912 (omega arith) in
    let k = moved 12582912 (m * up e) d Q (Q - 12582912) (omega arith) (closest_near a d h) in (
      Q - 12582912,
      record {
        small = omega (arith, closest_le a d h 16777216 hi);
        over = k.0;
        under = k.1;
        is = off _ Q (subst (λ (y : Float). HasValue y false Q 1) (sym is_sum) (rounded_value a d h (omega arith) hi false)) ∙ simp (le-ltb Q 12582912 ge);
      },
    )
  where
    is_sum : fin false m e ⊕ centre ≡ round binary32 false (m * up e + 12582912 * down e) (down e)
    is_sum = unfold add sum of_bits in simp mul-one

pub centred_negative : (m : ℕ) (e : ℤ) → 0 < m * up e → m * up e < 4194304 * down e → (q : ℕ) × Nearby true (m * up e) (down e) q (fin true m e ⊕ centre ⊖ centre)
centred_negative m e z l =
    let d = down e in
    let h = down_pos e in
    let a = 12582912 * d - m * up e in
    let Q = closest a d in
    let le = closest_le a d h 12582912 (omega arith) in
    let hi : a < 16777216 * d = omega arith in
    let k = mirrored 12582912 (m * up e) d Q (12582912 - Q) (omega arith) (omega arith) (closest_near a d h) in (
      12582912 - Q,
      record {
        small = omega (arith, closest_ge a d h 8388608 (omega arith));
        over = k.0;
        under = k.1;
        is = off _ Q (subst (λ (y : Float). HasValue y false Q 1) (sym is_sum) (rounded_value a d h (omega arith) hi false)) ∙ ap (λ (z : ℤ). of_int binary32 z) (minus_is Q 12582911 le);
      },
    )
  where
    is_sum : fin true m e ⊕ centre ≡ round binary32 false (12582912 * down e - m * up e) (down e)
    is_sum = unfold add sum of_bits in simp (mul-one, lt-ltb (m * up e) (12582912 * down e) (omega arith))
