-- DECIMAL DIGITS AS CHARACTERS, the first of them the most significant: what a level is worked with. Definitions only.
use Rattle.std.specs.Prelude.{◌≡◌, Bool, true, false, cond, List, [], ◌∷◌, ℕ, ◌+◌, ◌*◌, ◌^◌, ◌<◌, ◌≤◌, ltb, length, get_or}
use Rattle.numerals.specs.Spelled.{number_of}

-- Each character is a digit; and a test of that.
abbrev pub AreDigits : List ℕ → Type 0
AreDigits text = (i : ℕ) → i < length text → (48 ≤ get_or text i 0) × (get_or text i 0 ≤ 57)

unfoldable pub all_digits : List ℕ → Bool
all_digits [] = true
all_digits (c ∷ text) = cond (ltb c 48) false (cond (ltb 57 c) false (all_digits text))

-- Twice the number of the digits before is that of the digits after, as many of them, with the carry, 0 or 1, in front.
pub record Doubled (before after : List ℕ) (carry : ℕ) : Type 0 where
  pub as_many : length after ≡ length before
  pub digits : AreDigits after
  pub carried : carry ≤ 1
  pub twice : number_of before * 2 ≡ carry * 10 ^ length before + number_of after
