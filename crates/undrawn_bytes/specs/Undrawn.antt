-- THE BYTES THAT NO CURVE DRAWS: docs/SPECIFICATION.md, "What differs". A reading gives the byte of each number: a is the old, b the new. Definitions only.
use Rattle.std.specs.Prelude.{cond, List, ◌++◌, ℕ, eqb}
use Rattle.text.specs.Text.{ascii}
use Rattle.code_bytes.specs.Bytes.{block_length}
use Rattle.undrawn_count.specs.Count.{undrawn_count}
use Rattle.undrawn_lines.specs.Lines.{undrawn_text}

-- All of them, with a title up to column 17.
unfoldable pub undrawn_part : (ℕ → ℕ) → (ℕ → ℕ) → List ℕ
undrawn_part a b = ascii "Not drawn        " ++ cond (eqb (undrawn_count block_length a b) 0) (ascii "same\n") (ascii "different\n" ++ undrawn_text block_length a b)
