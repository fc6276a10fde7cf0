-- A LIST OF A FIXED LENGTH. Definitions only.
use Rattle.std.specs.Prelude.{List, [], ◌∷◌, ℕ, zero, suc}

-- The first n of a list, and d in each place where it is shorter.
unfoldable pub padded : {A : Type 0} → A → ℕ → List A → List A
padded d zero xs = []
padded d (suc n) [] = d ∷ padded d n []
padded d (suc n) (x ∷ xs) = x ∷ padded d n xs
