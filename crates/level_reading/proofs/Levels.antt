-- THE LEVEL OF A TEXT, by its cases: of a whole digit and places, and of a text by its length and its second character.
-- Assumes nothing.
use mathlib.Core.Path.{◌≡◌, refl, sym, ap, ◌∙◌}
use mathlib.Core.Bool.{Bool, true, false, cond}
use mathlib.Core.List.{List, [], ◌∷◌}
use Prim.Native.Nat.{ℕ, suc, ◌+◌, ◌-◌, ◌*◌, ◌^◌, ◌≤◌, ◌<◌}
use native.Mathlib.Nat.{le_of_lt, le_of_eq, le_refl, lt_irrefl, not-suc-le-zero, suc-ne-zero}
use native.Mathlib.Nat.{mul-le-mul_right, mul_comm}
use native.Mathlib.Omega.{arith}
use borrow.Author.Tests.{lt-ltb, le-ltb}
use lib.Dec.{ltb, leb, eqb, ltb→lt}
use lib.ListN.{length, take, drop, get_or, length-drop}
use lib.Seq.{take_all}
use lib.Ieee.{Float, binary32, round, of_bits}
use lib.Ieee.Scale.{round_same}
use Rattle.numerals.specs.Spelled.{number_of}
use Rattle.std.specs.Prelude.{Option, Some, None}
use Rattle.decimal_reading.specs.Reading.{read_after}
use Rattle.level_reading.specs.Digits.{all_digits}
use Rattle.level_reading.specs.Reading.{level_over, level_of}
use Rattle.level_reading.proofs.Digits.{ten_positive, no_more, number_below, digits_front, digits_each}
use Rattle.level_reading.proofs.Digits.{read_all, read_other}

-- ---- a number over 10 to the power n
level_within : (n m : ℕ) → m ≤ 10 ^ n → level_over n (Some m) ≡ Some (round binary32 false m (10 ^ n))
unfolding level_over
level_within n m h = rw (le-ltb (10 ^ n) m h)

level_past : (n m : ℕ) → 10 ^ n < m → level_over n (Some m) ≡ None
unfolding level_over
level_past n m h = rw (lt-ltb (10 ^ n) m h)

level_no_number : (n : ℕ) → level_over n None ≡ None
unfolding level_over
level_no_number n = refl

one_is : (p : ℕ) → 0 < p → of_bits binary32 0x3f80_0000 ≡ round binary32 false p p
unfolding of_bits round
one_is p h = sym (round_same binary32 false p p 1 1 h (ltb→lt 0 1 tt) (mul_comm p 1))

-- ---- a whole digit and places
module _ (whole : ℕ) (places : List ℕ) where
  abbrev n : ℕ
  n = length places

  abbrev number : ℕ
  number = (whole - 48) * 10 ^ n + number_of places

  abbrev answer : Option Float
  answer = level_over n (read_after 0 (whole ∷ places))

  digits_read : all_digits (whole ∷ places) ≡ true → read_after 0 (whole ∷ places) ≡ Some number
  unfolding number_of
  digits_read d = read_all 0 (whole ∷ places) d ∙ ap Some (no_more (10 ^ suc n) number)

  refused : all_digits (whole ∷ places) ≡ false → None ≡ answer
  refused d = sym (ap (level_over n) (read_other 0 (whole ∷ places) d) ∙ level_no_number n)

  -- No digit in front, or more than 1.
  past : (48 ≤ whole → 10 ^ n < number) → None ≡ answer
  past h = go (all_digits (whole ∷ places)) refl
    where
      go : (b : Bool) → all_digits (whole ∷ places) ≡ b → None ≡ answer
      go false d = refused d
      go true d = sym (ap (level_over n) (digits_read d) ∙ level_past n number (h (digits_front whole places d).0))

  pub level_other : all_digits places ≡ false → None ≡ answer
  unfolding all_digits
  level_other d = refused (go (ltb whole 48) (ltb 57 whole))
    where
      go : (a b : Bool) → cond a false (cond b false (all_digits places)) ≡ false
      go true b = refl
      go false true = refl
      go false false = d

  pub level_two : (whole ≡ 48 → ⊥) → (whole ≡ 49 → ⊥) → None ≡ answer
  level_two a b = past (λ l. two whole (10 ^ n) (number_of places) l a b (ten_positive n))
    where
      two : (w p m : ℕ) → 48 ≤ w → (w ≡ 48 → ⊥) → (w ≡ 49 → ⊥) → 0 < p → p < (w - 48) * p + m
      two w p m l a b h = let t : 2 ≤ w - 48 = omega arith in omega (arith, mul-le-mul_right p t)

  pub level_above : whole ≡ 49 → (number_of places ≡ 0 → ⊥) → None ≡ answer
  level_above w z = past (λ l. rw w (more (10 ^ n) (number_of places) z))
    where
      more : (p m : ℕ) → (m ≡ 0 → ⊥) → p < 1 * p + m
      more p m z = omega arith

  module _ (d : all_digits places ≡ true) where
    rounds : (m : ℕ) → 48 ≤ whole → whole ≤ 57 → number ≡ m → m ≤ 10 ^ n
        → Some (round binary32 false m (10 ^ n)) ≡ answer
    unfolding all_digits
    rounds m l k e h =
        let r = digits_read (rw (le-ltb whole 48 l, le-ltb 57 whole k) d) in
        sym (ap (level_over n) (r ∙ ap Some e) ∙ level_within n m h)

    pub level_zero : whole ≡ 48 → {x : Float} → x ≡ round binary32 false (number_of places) (10 ^ n) → Some x ≡ answer
    level_zero w e =
        let l = le_of_lt (number_below places (digits_each places d)) in
        ap Some e ∙ rounds (number_of places) (omega arith) (omega arith) (rw w (no_more (10 ^ n) (number_of places))) l

    pub level_one : whole ≡ 49 → number_of places ≡ 0 → Some (of_bits binary32 0x3f80_0000) ≡ answer
    level_one w z =
        ap Some (one_is (10 ^ n) (ten_positive n))
        ∙ rounds (10 ^ n) (omega arith) (omega arith) (rw (w, z) (once (10 ^ n))) (le_refl (10 ^ n))
      where
        once : (p : ℕ) → 1 * p + 0 ≡ p
        once p = omega arith

-- ---- a text
pub from : (i : ℕ) (text : List ℕ) → take (length text - i) (drop i text) ≡ drop i text
from i text = take_all (length text - i) (drop i text) (le_of_eq (length-drop i text))

-- The first character, and those from index i on, as a whole digit and places.
abbrev pub parted : ℕ → List ℕ → Option Float
parted i text = level_over (length (drop i text)) (read_after 0 (get_or text 0 0 ∷ drop i text))

pub level_empty : (text : List ℕ) → length text ≡ 0 → None ≡ level_of text
unfolding level_of
level_empty [] e = refl
level_empty (x ∷ xs) e = absurd (suc-ne-zero (length xs) e)

pub level_whole : (text : List ℕ) → length text ≡ 1 → parted 1 text ≡ level_of text
unfolding level_of
level_whole [] e = absurd (suc-ne-zero 0 (sym e))
level_whole (x ∷ []) e = refl
level_whole (x ∷ y ∷ xs) e = absurd (longer (length xs) e)
  where
    longer : (n : ℕ) → suc (suc n) ≡ 1 → ⊥
    longer n e = omega arith

pub level_pointed : (text : List ℕ) → 1 < length text
    → level_of text
    ≡ cond (eqb (get_or text 1 0) 46) (cond (leb (length (drop 2 text)) 160) (parted 2 text) None) None
unfolding level_of
level_pointed [] h = absurd (not-suc-le-zero h)
level_pointed (x ∷ []) h = absurd (lt_irrefl 1 h)
level_pointed (x ∷ y ∷ xs) h = refl
