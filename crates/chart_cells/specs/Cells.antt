-- A CELL OF THE CHART OF BENDS: docs/SPECIFICATION.md, "The page of bends". In hundredths of a millimetre. Definitions only.
use Rattle.std.specs.Prelude.{List, ◌++◌, ℕ}
use Rattle.std.specs.Float.{binary32}
use Rattle.std.specs.Float.Ieee.{to_bits}
use Rattle.exact.specs.Fraction.{ratio, ◌*ℚ◌}
use Rattle.exact.specs.Value.{value}
use Rattle.bends.specs.Formula.{bend_of}
use Rattle.text.specs.Text.{ascii}
use Rattle.numerals.specs.Spelled.{decimal_of, hex_of, fixed_of}
use Rattle.fixed_point.specs.Nearest.{nearestℚ}
use Rattle.chart_places.specs.Places.{place_text}

-- The bend of curve byte c in six places: the nearest whole number of millionths.
unfoldable pub six_places : ℕ → List ℕ
six_places c = fixed_of (nearestℚ (value (bend_of c) *ℚ ratio 1000000 1)) 6

-- The six places, and below them the bits of the bend.
unfoldable pub numbers_text : ℕ → List ℕ
numbers_text c = six_places c ++ ascii "</text><text y='780'>" ++ hex_of (to_bits binary32 (bend_of c))

-- The byte, and below it the numbers.
unfoldable pub cell_text : ℕ → List ℕ
cell_text c = place_text c ++ ascii "<text class='c'>" ++ decimal_of c ++ ascii "</text><text y='390'>" ++ numbers_text c ++ ascii "</text></g>\n"
