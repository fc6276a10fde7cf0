-- WHAT DIFFERS BETWEEN THE BYTES OF TWO BLOCKS: docs/SPECIFICATION.md, "What differs". A reading gives the byte of each number: a is the old, b the new. Definitions only.
use Rattle.std.specs.Prelude.{Bool, true, false, cond, List, [], ◌∷◌, ◌++◌, ℕ, eqb}
use Rattle.text.specs.Text.{ascii}
use Rattle.numerals.specs.Spelled.{decimal_of}
use Rattle.byte_names.specs.ByteNames.{byte_name}

-- Two readings have each byte of a list the same.
unfoldable pub same_bytes : List ℕ → (ℕ → ℕ) → (ℕ → ℕ) → Bool
same_bytes [] a b = true
same_bytes (n ∷ ns) a b = cond (eqb (a n) (b n)) (same_bytes ns a b) false

-- The line of byte n, in column 28: its name, the old byte and the new. A byte that is the same has none.
unfoldable pub change_text : ℕ → ℕ → ℕ → List ℕ
change_text n a b = cond (eqb a b) [] (ascii "                            " ++ byte_name n ++ ascii " " ++ decimal_of a ++ ascii " -> " ++ decimal_of b ++ ascii "\n")

-- The lines of the bytes of a list.
unfoldable pub changes_text : List ℕ → (ℕ → ℕ) → (ℕ → ℕ) → List ℕ
changes_text [] a b = []
changes_text (n ∷ ns) a b = change_text n (a n) (b n) ++ changes_text ns a b
