-- THE BIT PATTERN OF AN F32 AS TEXT. Definitions only.
use Rattle.std.specs.Prelude.{List, ◌++◌, ℕ, ◌/◌, ◌^◌}
use Rattle.text.specs.Text.{ascii}
use Rattle.numerals.specs.Spelled.{digits_of, hex_of}

-- The sign, the 8 bits of the exponent's field and the 23 bits of the fraction, a space between two.
unfoldable pub fields_text : ℕ → List ℕ
fields_text b = digits_of 2 1 (b / 2 ^ 31) ++ ascii " " ++ digits_of 2 8 (b / 2 ^ 23) ++ ascii " " ++ digits_of 2 23 b

-- Eight hexadecimal digits, then the same bit by bit.
unfoldable pub pattern_text : ℕ → List ℕ
pattern_text b = ascii "0x" ++ hex_of b ++ ascii "  " ++ fields_text b
