-- DECIMAL DIGITS: their number, from an index on, and with one digit more; a text whose characters are all digits,
-- and what it reads as. Assumes nothing.
use mathlib.Core.Path.{◌≡◌, refl, sym, ap, ◌∙◌}
use mathlib.Core.Bool.{Bool, true, false, cond, true≢false}
use mathlib.Core.List.{List, [], ◌∷◌}
use Prim.Native.Nat.{ℕ, zero, suc, ◌+◌, ◌-◌, ◌*◌, ◌^◌, ◌≤◌, ◌<◌, zero-le, suc-le-suc}
use native.Mathlib.Nat.{not-suc-le-zero, le_of_suc-le-suc, mul-le-mul_right, one-le-pow, pow-suc}
use native.Mathlib.Numerals.{add-one}
use native.Mathlib.Omega.{arith}
use borrow.Author.Tests.{lt-ltb, le-ltb, ltb-false}
use lib.Dec.{ltb, ltb→lt}
use lib.ListN.{length, drop, get_or, length-drop, drop_of_length-le}
use lib.Seq.{drop-cons}
use Rattle.numerals.specs.Spelled.{number_of}
use Rattle.std.specs.Prelude.{Option, Some, None}
use Rattle.decimal_reading.specs.Reading.{read_after}
use Rattle.level_reading.specs.Digits.{AreDigits, all_digits}

pub ten_positive : (n : ℕ) → 0 < 10 ^ n
ten_positive n = one-le-pow n 10 (ltb→lt 0 10 tt)

-- A digit 0 adds nothing.
pub no_more : (p n : ℕ) → 0 * p + n ≡ n
no_more p n = omega arith

-- ---- the number of digits
pub number_below : (text : List ℕ) → AreDigits text → number_of text < 10 ^ length text
unfolding number_of
number_below [] h = suc-le-suc zero-le
number_below (c ∷ text) h =
    let l = number_below text (λ i k. h (suc i) (suc-le-suc k)) in
    rw (pow-suc 10 (length text)) (bound c (10 ^ length text) (number_of text) (h 0 (suc-le-suc zero-le)).1 l)
  where
    bound : (c p n : ℕ) → c ≤ 57 → n < p → (c - 48) * p + n < p * 10
    bound c p n h l = let s : c - 48 ≤ 9 = omega arith in omega (arith, mul-le-mul_right p s)

pub number_none : (text : List ℕ) (i : ℕ) → length text ≤ i → number_of (drop i text) ≡ 0
unfolding number_of
number_none text i h = rw (drop_of_length-le text h)

module _ (text : List ℕ) (i : ℕ) (h : i < length text) where
  -- The digit at an index, and those behind it.
  pub number_from : number_of (drop i text)
      ≡ (get_or text i 0 - 48) * 10 ^ (length text - suc i) + number_of (drop (suc i) text)
  unfolding number_of
  number_from = rw (drop-cons text i 0 h, length-drop (suc i) text)

  -- A digit 0 is passed, and any other makes the number one above 0.
  pub zero_passed : get_or text i 0 ≡ 48 → number_of (drop (i + 1) text) ≡ number_of (drop i text)
  zero_passed e =
      rw (add-one i, number_from, e) (sym (no_more (10 ^ (length text - suc i)) (number_of (drop (suc i) text))))

  pub digit_counts : 48 ≤ get_or text i 0 → (get_or text i 0 ≡ 48 → ⊥) → number_of (drop i text) ≡ 0 → ⊥
  digit_counts l n e =
      let p = ten_positive (length text - suc i) in
      some (get_or text i 0) (10 ^ (length text - suc i)) (number_of (drop (suc i) text)) l n p (rw number_from at e)
    where
      some : (d p n : ℕ) → 48 ≤ d → (d ≡ 48 → ⊥) → 0 < p → (d - 48) * p + n ≡ 0 → ⊥
      some d p n l f h e = let t : 1 ≤ d - 48 = omega arith in omega (arith, mul-le-mul_right p t)

  -- ---- one character more
  pub digits_more : 48 ≤ get_or text i 0 → get_or text i 0 ≤ 57 → all_digits (drop (i + 1) text) ≡ all_digits (drop i text)
  unfolding all_digits
  digits_more l k = rw (add-one i, drop-cons text i 0 h, le-ltb (get_or text i 0) 48 l, le-ltb 57 (get_or text i 0) k)

  pub digits_below : get_or text i 0 < 48 → false ≡ all_digits (drop i text)
  unfolding all_digits
  digits_below l = rw (drop-cons text i 0 h, lt-ltb (get_or text i 0) 48 l)

  pub digits_above : 48 ≤ get_or text i 0 → 57 < get_or text i 0 → false ≡ all_digits (drop i text)
  unfolding all_digits
  digits_above l k = rw (drop-cons text i 0 h, le-ltb (get_or text i 0) 48 l, lt-ltb 57 (get_or text i 0) k)

pub digits_whole : (text : List ℕ) (i : ℕ) → length text ≤ i → true ≡ all_digits (drop i text)
unfolding all_digits
digits_whole text i h = rw (drop_of_length-le text h)

-- ---- a text of digits
pub digits_front : (c : ℕ) (text : List ℕ) → all_digits (c ∷ text) ≡ true → (48 ≤ c) × (c ≤ 57) × (all_digits text ≡ true)
unfolding all_digits
digits_front c text = go (ltb c 48) (ltb 57 c) (ltb-false c 48) (ltb-false 57 c)
  where
    go : (a b : Bool) → (a ≡ false → 48 ≤ c) → (b ≡ false → c ≤ 57)
        → cond a false (cond b false (all_digits text)) ≡ true → (48 ≤ c) × (c ≤ 57) × (all_digits text ≡ true)
    go true b f g e = absurd (true≢false (sym e))
    go false true f g e = absurd (true≢false (sym e))
    go false false f g e = (f refl, g refl, e)

pub digits_each : (text : List ℕ) → all_digits text ≡ true → AreDigits text
digits_each [] e i h = absurd (not-suc-le-zero h)
digits_each (c ∷ text) e zero h = let s = digits_front c text e in (s.0, s.1)
digits_each (c ∷ text) e (suc i) h = digits_each text (digits_front c text e).2 i (le_of_suc-le-suc h)

-- ---- what a text reads as
pub read_all : (m : ℕ) (text : List ℕ) → all_digits text ≡ true
    → read_after m text ≡ Some (m * 10 ^ length text + number_of text)
unfolding read_after number_of
read_all m [] e = ap Some (alone m)
  where
    alone : (m : ℕ) → m ≡ m * 1 + 0
    alone m = omega arith
read_all m (c ∷ text) e =
    let s = digits_front c text e in
    rw (le-ltb c 48 s.0, le-ltb 57 c s.1, pow-suc 10 (length text))
    (read_all (m * 10 + (c - 48)) text s.2 ∙ ap Some (join m (c - 48) (10 ^ length text) (number_of text)))
  where
    join : (m d p n : ℕ) → (m * 10 + d) * p + n ≡ m * (p * 10) + (d * p + n)
    join m d p n = omega arith

pub read_other : (m : ℕ) (text : List ℕ) → all_digits text ≡ false → read_after m text ≡ None
unfolding read_after all_digits
read_other m [] e = absurd (true≢false e)
read_other m (c ∷ text) e =
    let n = m * 10 + (c - 48) in go (ltb c 48) (ltb 57 c) e (read_after n text) (read_other n text)
  where
    go : (a b : Bool) → cond a false (cond b false (all_digits text)) ≡ false → (r : Option ℕ)
        → (all_digits text ≡ false → r ≡ None) → cond a None (cond b None r) ≡ None
    go true b e r f = refl
    go false true e r f = refl
    go false false e r f = f e
