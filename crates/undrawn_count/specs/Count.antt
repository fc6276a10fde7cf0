-- HOW MANY OF THE BYTES THAT NO CURVE DRAWS DIFFER: docs/SPECIFICATION.md, "What differs". A reading gives the byte of each number: a is the old, b the new. Definitions only.
use Rattle.std.specs.Prelude.{Bool, false, cond, not, ℕ, zero, suc, ◌+◌, eqb}
use Rattle.drawn_bytes.specs.Drawn.{drawn}

unfoldable pub differs : ℕ → ℕ → ℕ → Bool
differs n a b = cond (eqb a b) false (not (drawn n))

-- How many of the first k bytes differ and are not drawn.
unfoldable pub differ_count : ℕ → ℕ → ℕ → ℕ
differ_count n a b = cond (differs n a b) 1 0

unfoldable pub undrawn_count : ℕ → (ℕ → ℕ) → (ℕ → ℕ) → ℕ
undrawn_count zero a b = 0
undrawn_count (suc k) a b = undrawn_count k a b + differ_count k (a k) (b k)
