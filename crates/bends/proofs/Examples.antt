-- BENDS HELD AGAINST THE RUST. A row is a curve byte, then its bend by its bits. Assumes nothing.
-- Every row was printed by reference/settings/run, built with rustc 1.95.0 over the unchanged math.rs and generator.rs
-- (deepmind-midi, commit a25f50498d).
use mathlib.Core.Bool.{Bool}
use mathlib.Core.List.{List, [], ◌∷◌}
use Prim.Native.Nat.{ℕ}
use lib.Dec.{T, eqb}
use lib.Ieee.{binary32, of_bits, to_bits, of_int, add, sub, mul, div, lt}
use Rattle.exact.specs.Value.{value}
use Rattle.series.specs.Horner.{horner}
use Rattle.math.specs.Formulas.{clamp_of}
use Rattle.floor.specs.Formula.{floor_of, fract_of}
use Rattle.exp2.specs.Formula.{exp2_scale, exp2_coefficients, exp2_within, exp2_of}
use Rattle.lists.proofs.Rows.{all_pass}
use Rattle.bends.specs.Formula.{bend_of}

bend_rows : List (ℕ × ℕ)
bend_rows =
    (0, 0x3e80_0000) ∷ (1, 0x3e81_64d2) ∷ (64, 0x3f00_0000) ∷ (127, 0x3f7d_3e0b) ∷ (128, 0x3f80_0000) ∷ (129, 0x3f81_64d2) ∷ (192, 0x4000_0000)
    ∷ (254, 0x407a_83b2) ∷ (255, 0x407d_3e0b) ∷ []

bend_row : ℕ × ℕ → Bool
bend_row r = eqb (to_bits binary32 (bend_of r.0)) r.1

bend_agrees : T (all_pass bend_row bend_rows)
unfolding all_pass bend_row bend_rows to_bits of_bits of_int bend_of exp2_of exp2_within exp2_coefficients clamp_of lt horner fract_of floor_of exp2_scale value add sub mul div
bend_agrees = tt
