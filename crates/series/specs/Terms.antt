-- THE TERMS OF A SERIES: docs/SPECIFICATION.md, "Exact series". Nothing here is rounded. Definitions only.
use Rattle.std.specs.Prelude.{List, [], ◌∷◌, ℕ, zero, suc, ◌*◌}
use Rattle.exact.specs.Fraction.{Fraction}

-- t k, t (k + 1), .. : n terms of a series
unfoldable pub terms : (ℕ → Fraction) → ℕ → ℕ → List Fraction
terms t k zero = []
terms t k (suc n) = t k ∷ terms t (suc k) n

unfoldable pub factorial : ℕ → ℕ
factorial zero = 1
factorial (suc n) = suc n * factorial n
