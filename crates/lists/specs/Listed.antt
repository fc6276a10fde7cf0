-- A TABLE OF A FUNCTION'S VALUES. Definitions only.
use Rattle.std.specs.Prelude.{List, [], ◌∷◌, ℕ, zero, suc}

-- f j, f (j + 1), .. : n of them.
unfoldable pub listed : {A : Type 0} → (ℕ → A) → ℕ → ℕ → List A
listed f j zero = []
listed f j (suc n) = f j ∷ listed f (suc j) n
