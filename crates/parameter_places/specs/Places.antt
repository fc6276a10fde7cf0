-- WHERE A ROW STANDS: docs/SPECIFICATION.md, "The page of all parameters". In hundredths of a millimetre. Definitions only.
use Rattle.std.specs.Prelude.{List, ◌++◌, ℕ, ◌+◌, ◌*◌, ◌/◌, ◌%◌}
use Rattle.text.specs.Text.{ascii}
use Rattle.numerals.specs.Spelled.{decimal_of}

-- The row of byte n: 61 rows in a column.
unfoldable pub place_text : ℕ → List ℕ
place_text n = ascii "<g transform='translate(" ++ decimal_of (1150 + 7100 * (n / 61)) ++ ascii " " ++ decimal_of (2120 + 290 * (n % 61)) ++ ascii ")'>"
