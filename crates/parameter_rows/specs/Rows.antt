-- THE ROWS OF THE PAGE OF ALL PARAMETERS: docs/SPECIFICATION.md, "The page of all parameters". Definitions only.
use Rattle.std.specs.Prelude.{List, ◌++◌, ℕ}
use Rattle.text.specs.Text.{texts_below}
use Rattle.parameter_places.specs.Places.{place_text}
use Rattle.parameter_cells.specs.Cells.{rule_text, dot_text, cells_text}

-- The row of byte n, which is b.
unfoldable pub row_text : ℕ → ℕ → List ℕ
row_text n b = place_text n ++ rule_text n ++ dot_text n ++ cells_text n b

-- The rows of the first k bytes.
abbrev pub rows_text : ℕ → (ℕ → ℕ) → List ℕ
rows_text k bytes = texts_below (λ n. row_text n (bytes n)) k
