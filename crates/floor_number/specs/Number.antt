-- WHOLE NUMBERS ABOUT THE FLOOR OF A BIT PATTERN, as text. Definitions only.
use Rattle.std.specs.Prelude.{cond, List, [], ◌++◌, ℕ, suc, ltb, ℤ, pos, negsuc}
use Rattle.exact.specs.Fraction.{floorℚ}
use Rattle.exact.specs.Value.{value}
use Rattle.exact.specs.Binary32.{bits}
use Rattle.floor.specs.Exponent.{exponent}
use Rattle.text.specs.Text.{ascii}
use Rattle.numerals.specs.Spelled.{decimal_of}

-- A whole number in decimal, with a minus where it is below 0.
unfoldable pub whole_text : ℤ → List ℕ
whole_text (pos n) = decimal_of n
whole_text (negsuc n) = ascii "-" ++ decimal_of (suc n)

-- The floor of a pattern with the exponent z; nothing from exponent 23 on.
abbrev pub number_at : ℤ → ℕ → List ℕ
number_at (negsuc n) b = whole_text (floorℚ (value (bits b)))
number_at (pos e) b = cond (ltb e 23) (whole_text (floorℚ (value (bits b)))) []

unfoldable pub number_text : ℕ → List ℕ
number_text b = number_at (exponent b) b
