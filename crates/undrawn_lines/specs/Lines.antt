-- THE LINES OF THE BYTES THAT NO CURVE DRAWS: docs/SPECIFICATION.md, "What differs". A reading gives the byte of each number: a is the old, b the new. Definitions only.
use Rattle.std.specs.Prelude.{cond, List, [], ◌++◌, ℕ}
use Rattle.text.specs.Text.{ascii, texts_below}
use Rattle.numerals.specs.Spelled.{decimal_of}
use Rattle.parameter_names.specs.ParameterNames.{parameter_name}
use Rattle.undrawn_count.specs.Count.{differs}

-- The line of byte n, in column 28: its name and number, the old byte and the new.
unfoldable pub named_text : ℕ → List ℕ
named_text n = ascii "                            " ++ parameter_name n ++ ascii " (byte " ++ decimal_of n ++ ascii ") "

unfoldable pub line_text : ℕ → ℕ → ℕ → List ℕ
line_text n a b = named_text n ++ decimal_of a ++ ascii " -> " ++ decimal_of b ++ ascii "\n"

-- A byte that is the same or is drawn has none.
unfoldable pub change_text : ℕ → ℕ → ℕ → List ℕ
change_text n a b = cond (differs n a b) (line_text n a b) []

-- The lines of the first k bytes.
abbrev pub undrawn_text : ℕ → (ℕ → ℕ) → (ℕ → ℕ) → List ℕ
undrawn_text k a b = texts_below (λ n. change_text n (a n) (b n)) k
