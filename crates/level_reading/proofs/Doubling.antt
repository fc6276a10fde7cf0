-- DIGITS DOUBLED FROM THE LAST ONE ON. From index i on they are twice those before, with the carry in front; those
-- below i are as before. Assumes nothing.
use mathlib.Core.Path.{◌≡◌, refl, ap, ◌∙◌}
use mathlib.Core.List.{List}
use Prim.Native.Nat.{ℕ, zero, suc, ◌+◌, ◌-◌, ◌*◌, ◌/◌, ◌%◌, ◌^◌, ◌≤◌, ◌<◌}
use native.Mathlib.Nat.{le_refl, le_of_lt, ne_of_lt, not-suc-le-zero, div-add-mod', pow-suc}
use native.Mathlib.Decide.{ℕ_discrete}
use native.Mathlib.Omega.{arith}
use lib.ListN.{length, drop, get_or, set, length-set}
use lib.Seq.{get_or-set_same, get_or-set_other, drop-set-lt}
use Rattle.numerals.specs.Spelled.{number_of}
use Rattle.level_reading.specs.Digits.{AreDigits, Doubled}
use Rattle.level_reading.proofs.Digits.{number_from, number_none}

pub record DoubledFrom (before after : List ℕ) (i carry : ℕ) : Type 0 where
  pub as_many : length after ≡ length before
  pub within : i ≤ length after
  pub digits : AreDigits after
  pub carried : carry ≤ 1
  pub kept : (j : ℕ) → j < i → get_or after j 0 ≡ get_or before j 0
  pub twice : number_of (drop i before) * 2 ≡ carry * 10 ^ (length before - i) + number_of (drop i after)

pub none_doubled : (text : List ℕ) → AreDigits text → DoubledFrom text text (length text) 0
none_doubled text h = record {
  as_many = refl;
  within = le_refl (length text);
  digits = h;
  carried = omega arith;
  kept = λ j l. refl;
  twice = rw (number_none text (length text) (le_refl (length text))) (omega arith);
}

pub all_doubled : (before after : List ℕ) (i carry : ℕ) → i ≤ 0 → DoubledFrom before after i carry
    → Doubled before after carry
all_doubled before after (suc i) carry h d = absurd (not-suc-le-zero h)
all_doubled before after zero carry h d = record {
  as_many = d.as_many;
  digits = d.digits;
  carried = d.carried;
  twice = let e : length before - 0 ≡ length before = omega arith in rw e at d.twice;
}

-- ---- one digit more
-- Where a digit is written, each character is a digit still.
digit_set : (text : List ℕ) (p v : ℕ) → p < length text → 48 ≤ v → v ≤ 57 → AreDigits text → AreDigits (set text p v)
digit_set text p v h l k d i g =
    elim (ℕ_discrete i p) [
      | yes e ↦ rw (e, get_or-set_same text p v 0 h) (l, k)
      | no n ↦ rw (get_or-set_other text p i v 0 n) (d i (rw (length-set text p v) at g))
    ]

-- d is a digit and w its weight, a and b the numbers behind it before and after, c what is carried to it;
-- q is carried on, and r written.
join : (d c w q r a b : ℕ) → q * 10 + r ≡ d * 2 + c → a * 2 ≡ c * w + b → (d * w + a) * 2 ≡ q * (w * 10) + (r * w + b)
join d c w q r a b e f = omega (arith, ap (λ (x : ℕ). x * w) e)

module _ (before after : List ℕ) (p carry : ℕ) (s : DoubledFrom before after (suc p) carry) where
  abbrev digit : ℕ
  digit = get_or after p 0 - 48

  abbrev sum : ℕ
  sum = digit * 2 + carry

  abbrev next : List ℕ
  next = set after p (48 + sum % 10)

  abbrev weight : ℕ
  weight = 10 ^ (length before - suc p)

  inside : p < length before
  inside = rw s.as_many at s.within

  next_length : length next ≡ length after
  next_length = length-set after p (48 + sum % 10)

  before_from : number_of (drop p before) ≡ digit * weight + number_of (drop (suc p) before)
  before_from = number_from before p inside ∙ rw (s.kept p (le_refl (suc p)))

  next_from : number_of (drop p next) ≡ sum % 10 * weight + number_of (drop (suc p) after)
  next_from =
      let v = 48 + sum % 10 in
      number_from next p (rw next_length s.within)
      ∙ rw (get_or-set_same after p v 0 s.within, drop-set-lt (suc p) after p v (le_refl (suc p)))
      (rw (next_length, s.as_many)
      (ap (λ (x : ℕ). x * weight + number_of (drop (suc p) after)) (value (sum % 10))))
    where
      value : (r : ℕ) → 48 + r - 48 ≡ r
      value r = omega arith

  heavier : 10 ^ (length before - p) ≡ weight * 10
  heavier =
      let h = inside in
      let e : length before - p ≡ suc (length before - suc p) = omega arith in
      rw e (pow-suc 10 (length before - suc p))

  small : (d c : ℕ) → d ≤ 57 → c ≤ 1 → ((d - 48) * 2 + c) / 10 ≤ 1
  small d c h k = omega arith

  digit_doubled : DoubledFrom before next p (sum / 10)
  digit_doubled = record {
    as_many = next_length ∙ s.as_many;
    within = rw next_length (le_of_lt s.within);
    digits = digit_set after p (48 + sum % 10) s.within (omega arith) (omega arith) s.digits;
    carried = small (get_or after p 0) carry (s.digits p s.within).1 s.carried;
    kept = λ j l. get_or-set_other after p j (48 + sum % 10) 0 (ne_of_lt l) ∙ s.kept j (omega arith);
    twice =
        rw (before_from, next_from, heavier)
        (join digit carry weight (sum / 10) (sum % 10) (number_of (drop (suc p) before)) (number_of (drop (suc p) after))
        (div-add-mod' sum 10) s.twice);
  }

pub one_doubled : (before after : List ℕ) (i carry : ℕ) → 0 < i → DoubledFrom before after i carry
    → DoubledFrom before (set after (i - 1) (48 + ((get_or after (i - 1) 0 - 48) * 2 + carry) % 10)) (i - 1)
    (((get_or after (i - 1) 0 - 48) * 2 + carry) / 10)
one_doubled before after zero carry h s = absurd (not-suc-le-zero h)
one_doubled before after (suc p) carry h s =
    let e : suc p - 1 ≡ p = omega arith in rw e (digit_doubled before after p carry s)
