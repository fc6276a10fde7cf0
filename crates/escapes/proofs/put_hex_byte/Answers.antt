-- `put_hex_byte` puts `hex_byte_of`. Assumes nothing.
use mathlib.Core.Path.{◌≡◌}
use mathlib.Core.List.{[], ◌∷◌, ◌++◌}
use Prim.Native.Nat.{ℕ, ◌/◌, ◌%◌}
use Rattle.text.specs.Text.{ascii}
use Rattle.escapes.specs.Escaped.{upper_of, hex_byte_of}
use Rattle.text.proofs.Writing.{◌⨾◌, puts_as}
use Rattle.escapes.proofs.put_hex_byte.Goals as goal

code : (b u v : ℕ) → u ≡ upper_of (b / 16) → v ≡ upper_of (b % 16) → ascii "\\x" ++ (u ∷ []) ++ (v ∷ []) ≡ hex_byte_of b
unfolding hex_byte_of
code b u v eu ev = rw (eu, ev)

pub returns : goal.returns
returns c = puts_as (code _ _ _ c.upper.ensures c.upper-2.ensures) (c.put.ensures ⨾ c.put_byte.ensures ⨾ c.put_byte-2.ensures)
