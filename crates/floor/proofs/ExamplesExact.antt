-- THE EXACT FLOOR AND THE EXPONENT HELD AGAINST OUTSIDE NUMBERS. Assumes nothing.
-- Every row was printed by reference/math/exact.py (Python's own fractions and `frexp`).
use mathlib.Core.Bool.{Bool, ◌&&◌}
use mathlib.Core.List.{List, [], ◌∷◌}
use Prim.Native.Nat.{ℕ}
use lib.IntN.{ℤ, pos, neg_ℤ}
use lib.Signed.{le_z}
use lib.Dec.{T}
use Rattle.lists.proofs.Rows.{all_pass}
use Rattle.exact.specs.Fraction.{Fraction, ratio, floorℚ, negℚ}
use Rattle.floor.specs.Exponent.{exponent}

abbrev same : ℤ → ℤ → Bool
same a b = le_z a b && le_z b a

floors : Fraction × ℤ → Bool
floors r = same (floorℚ r.0) r.1

floor_rows : List (Fraction × ℤ)
floor_rows =
    (ratio 0 1, pos 0) ∷ (ratio 1 3, pos 0) ∷ (ratio 7 2, pos 3) ∷ (ratio 6 2, pos 3) ∷ (ratio 999 1000, pos 0)
    ∷ (ratio 1099511627777 2, pos 549755813888) ∷ (negℚ (ratio 1 1000000000), neg_ℤ (pos 1)) ∷ (negℚ (ratio 1 3), neg_ℤ (pos 1)) ∷ (negℚ (ratio 6 4), neg_ℤ (pos 2)) ∷ (negℚ (ratio 7 2), neg_ℤ (pos 4))
    ∷ (negℚ (ratio 6 2), neg_ℤ (pos 3)) ∷ (negℚ (ratio 1000 1000), neg_ℤ (pos 1)) ∷ (negℚ (ratio 1001 1000), neg_ℤ (pos 2)) ∷ []

floor_agrees : T (all_pass floors floor_rows)
unfolding all_pass floor_rows floors
floor_agrees = tt

-- ---- the exponent of a normal number's pattern
exponents : ℕ × ℤ → Bool
exponents r = same (exponent r.0) r.1

exponent_rows : List (ℕ × ℤ)
exponent_rows =
    (0x3f80_0000, pos 0) ∷ (0x3f7f_ffff, neg_ℤ (pos 1)) ∷ (0xbe80_0000, neg_ℤ (pos 2)) ∷ (0xc020_0000, pos 1) ∷ (0x40ff_f7cf, pos 2)
    ∷ (0x4a80_0001, pos 22) ∷ (0xcaff_ffff, pos 22) ∷ (0x4b00_0001, pos 23) ∷ (0x0080_0000, neg_ℤ (pos 126)) ∷ (0xff7f_ffff, pos 127) ∷ []

exponent_agrees : T (all_pass exponents exponent_rows)
unfolding all_pass exponent_rows exponents
exponent_agrees = tt
