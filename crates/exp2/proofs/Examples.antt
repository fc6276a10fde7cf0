-- THE FORMULA HELD AGAINST THE RUST. Assumes nothing.
-- Every row was printed by reference/math/run, built with rustc 1.95.0 over the unchanged math.rs (deepmind-midi, commit a25f50498d). A NaN is written 0x7fc0_0000 in both.
use mathlib.Core.List.{List, [], ◌∷◌}
use Prim.Native.Nat.{ℕ}
use lib.Dec.{T}
use lib.Ieee.{to_bits, of_bits, of_int, add, sub, mul, lt}
use Rattle.lists.proofs.Rows.{all_pass}
use Rattle.exact.specs.Value.{value}
use Rattle.math.specs.Formulas.{clamp_of}
use Rattle.math.proofs.Rows.{gives}
use Rattle.floor.specs.Formula.{floor_of, fract_of}
use Rattle.series.specs.Horner.{horner}
use Rattle.exp2.specs.Formula.{exp2_of, exp2_within, exp2_coefficients, exp2_scale}

-- ---- exp2: both ends of the clamp with neighbours and beyond, 24, -24, 0.99999994, -1e-9, -1/3; at one of the last three a change of the last bit of any coefficient shows
exp2_rows : List (ℕ × ℕ)
exp2_rows =
    (0x7fc0_0000, 0x7fc0_0000) ∷ (0x7f80_0000, 0x7f00_0000) ∷ (0xff80_0000, 0x0080_0000) ∷ (0x8000_0000, 0x3f80_0000) ∷ (0x8000_0001, 0x3f7f_ffff)
    ∷ (0x7f7f_ffff, 0x7f00_0000) ∷ (0xc2fc_0000, 0x0080_0000) ∷ (0xc2fe_0000, 0x0080_0000) ∷ (0xc2fb_ffff, 0x0080_002c) ∷ (0x42fe_0000, 0x7f00_0000)
    ∷ (0x4300_0000, 0x7f00_0000) ∷ (0x42fd_ffff, 0x7eff_ffa6) ∷ (0x41c0_0000, 0x4b80_0000) ∷ (0xc1c0_0000, 0x3380_0000) ∷ (0x3f7f_ffff, 0x3fff_fffe)
    ∷ (0xb089_705f, 0x3f7f_ffff) ∷ (0xbeaa_aaab, 0x3f4b_2ff4) ∷ (0x3f7f_c8d0, 0x3fff_d9c1) ∷ (0x3f68_1aa6, 0x3fef_f608) ∷ (0x3f7b_d2e4, 0x3ffd_1f1f) ∷ []

exp2_agrees : T (all_pass (gives exp2_of) exp2_rows)
unfolding all_pass gives exp2_rows to_bits of_bits exp2_of exp2_within exp2_coefficients clamp_of lt horner fract_of floor_of exp2_scale value of_int add sub mul
exp2_agrees = tt
