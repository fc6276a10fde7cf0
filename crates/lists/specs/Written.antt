-- A SLICE THAT IS WRITTEN FROM ITS START. Definitions only.
use Rattle.std.specs.Prelude.{List, ℕ, zero, suc, set}

-- A slice with its first k elements written: number i holds f i, and the others are as they were.
unfoldable pub written : {A : Type 0} → (ℕ → A) → ℕ → List A → List A
written f zero xs = xs
written f (suc k) xs = set (written f k xs) k (f k)
