-- A POLYNOMIAL BY HORNER'S RULE, in binary32 and exactly: its coefficients are a list, the constant term first. Definitions only.
use Rattle.std.specs.Prelude.{List, [], ◌∷◌, Float}
use Rattle.exact.specs.Fraction.{Fraction, ratio, ◌+ℚ◌, ◌*ℚ◌}
use Rattle.exact.specs.Binary32.{◌⊕◌, ◌⊗◌, zero₃₂}

-- c₀ ⊕ x ⊗ (c₁ ⊕ x ⊗ (c₂ ⊕ ..)), each operation rounded
unfoldable pub horner : List Float → Float → Float
horner [] x = zero₃₂
horner (c ∷ []) x = c
horner (c ∷ d ∷ cs) x = c ⊕ x ⊗ horner (d ∷ cs) x

-- the same, exactly
unfoldable pub hornerℚ : List Fraction → Fraction → Fraction
hornerℚ [] x = ratio 0 1
hornerℚ (c ∷ []) x = c
hornerℚ (c ∷ d ∷ cs) x = c +ℚ x *ℚ hornerℚ (d ∷ cs) x
