-- WHERE A CELL OF THE CHART OF BENDS STANDS: docs/SPECIFICATION.md, "The page of bends". In hundredths of a millimetre. Definitions only.
use Rattle.std.specs.Prelude.{List, ◌++◌, ℕ, ◌+◌, ◌*◌, ◌/◌, ◌%◌}
use Rattle.text.specs.Text.{ascii}
use Rattle.numerals.specs.Spelled.{decimal_of}

-- Where the cell of curve byte c stands: 16 of them in a row.
unfoldable pub place_text : ℕ → List ℕ
place_text c = ascii "<g transform='translate(" ++ decimal_of (820 + 1768 * (c % 16)) ++ ascii " " ++ decimal_of (1730 + 1190 * (c / 16)) ++ ascii ")scale(.86 1)'>"
