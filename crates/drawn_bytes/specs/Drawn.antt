-- THE BYTES THAT ARE DRAWN: docs/SPECIFICATION.md, "What differs". Definitions only.
use Rattle.std.specs.Prelude.{Bool, true, false, cond, ℕ, zero, suc, eqb, ltb, length, Option, Some, None}
use Rattle.words.specs.Words.{index_of}
use Rattle.codes.specs.declared.Code.{Code}
use Rattle.codes.specs.Codes.{code_of}
use Rattle.code_bytes.specs.Bytes.{bytes_of, gates_byte}

-- ---- which bytes are drawn
-- Byte n is among those that a code reads: its place is one of the list's.
unfoldable pub read_by : Option Code → ℕ → Bool
read_by (Some c) n = ltb (index_of (bytes_of c) n) (length (bytes_of c))
read_by None n = false

-- One of the first k codes reads byte n.
unfoldable pub drawn_by : ℕ → ℕ → Bool
drawn_by zero n = false
drawn_by (suc k) n = cond (read_by (code_of k) n) true (drawn_by k n)

-- One of the 14 curves is drawn from byte n, or the gates are.
unfoldable pub drawn : ℕ → Bool
drawn n = cond (eqb n gates_byte) true (drawn_by 14 n)
