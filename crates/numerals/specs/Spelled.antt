-- NUMBERS AS TEXT: docs/SPECIFICATION.md, "Written text". Definitions only.
use Rattle.std.specs.Prelude.{cond, List, [], ◌∷◌, ◌++◌, ℕ, zero, suc, ◌+◌, ◌-◌, ◌*◌, ◌/◌, ◌%◌, ◌^◌, min, ltb, length}
use Rattle.text.specs.Text.{ascii}

-- The character of a digit below 16: 0 to 9, then a to f.
unfoldable pub glyph_of : ℕ → ℕ
glyph_of d = cond (ltb d 10) (48 + d) (87 + d)

-- The last k digits of n in base b, the most significant first.
unfoldable pub digits_of : ℕ → ℕ → ℕ → List ℕ
digits_of b zero n = []
digits_of b (suc k) n = glyph_of (n / b ^ k % b) ∷ digits_of b k n

-- The first of the numbers k, k + 1, .. of digits that hold n in base 10; at most `more` of them are passed.
unfoldable pub places_from : ℕ → ℕ → ℕ → ℕ
places_from zero k n = k
places_from (suc more) k n = cond (ltb n (10 ^ k)) k (places_from more (suc k) n)

-- How many digits a number below 10^20 has in base 10.
abbrev pub digit_count : ℕ → ℕ
digit_count n = places_from 19 1 n

-- A number below 10^20 in base 10, with no zero in front.
unfoldable pub decimal_of : ℕ → List ℕ
decimal_of n = digits_of 10 (digit_count n) n

-- The number that decimal digits stand for: what decimalOf is held against (proofs/Reading.antt).
unfoldable pub number_of : List ℕ → ℕ
number_of [] = 0
number_of (c ∷ text) = (c - 48) * 10 ^ length text + number_of text

-- A number below 2^32 as eight hexadecimal digits.
unfoldable pub hex_of : ℕ → List ℕ
hex_of n = digits_of 16 8 n

-- A number with a point before its last digits, as many as asked for, and at most 19: 1234567890 with 9 is 1.234567890.
abbrev pub pointed : ℕ → ℕ → List ℕ
pointed n k = decimal_of (n / 10 ^ k) ++ ascii "." ++ digits_of 10 k n

unfoldable pub fixed_of : ℕ → ℕ → List ℕ
fixed_of n places = pointed n (min places 19)
