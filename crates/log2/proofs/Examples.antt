-- THE FORMULA HELD AGAINST THE RUST. Assumes nothing.
-- Every row was printed by reference/math/run, built with rustc 1.95.0 over the unchanged math.rs (deepmind-midi, commit a25f50498d). A NaN is written 0x7fc0_0000 in both.
use mathlib.Core.List.{List, [], ◌∷◌}
use Prim.Native.Nat.{ℕ}
use lib.Dec.{T}
use lib.Ieee.{to_bits, of_bits, of_int, add, sub, mul, div, lt}
use Rattle.lists.proofs.Rows.{all_pass}
use Rattle.math.proofs.Rows.{gives}
use Rattle.series.specs.Horner.{horner}
use Rattle.log2.specs.Formula.{log2_of, log2_bits, log2_mantissa, log2_series, log2_coefficients}

-- ---- log2: what has none, subnormals, the largest number, 1 and neighbours, 1.9999999, 2, 0.5, 2^25; at one of the last two a change of the last bit of any coefficient shows
log2_rows : List (ℕ × ℕ)
log2_rows =
    (0x7fc0_0000, 0xc2fc_0000) ∷ (0x7f80_0000, 0x4300_0000) ∷ (0xff80_0000, 0xc2fc_0000) ∷ (0x0000_0000, 0xc2fc_0000) ∷ (0x8000_0000, 0xc2fc_0000)
    ∷ (0xbf80_0000, 0xc2fc_0000) ∷ (0x0000_0001, 0xc2fe_0000) ∷ (0x0040_0000, 0xc2fc_d480) ∷ (0x007f_ffff, 0xc2fc_0000) ∷ (0x0080_0000, 0xc2fc_0000)
    ∷ (0x7f7f_ffff, 0x4300_0000) ∷ (0x3f80_0000, 0x0000_0000) ∷ (0x3f7f_ffff, 0xb5e8_0000) ∷ (0x3f80_0001, 0x3438_aa3b) ∷ (0x3fff_ffff, 0x3f7f_ffe3)
    ∷ (0x4000_0000, 0x3f80_0000) ∷ (0x3f00_0000, 0xbf80_0000) ∷ (0x4c00_0000, 0x41c8_0000) ∷ (0x3fff_69f7, 0x3f7f_2732) ∷ (0x3ffe_fbf1, 0x3f7e_87f7) ∷ []

log2_agrees : T (all_pass (gives log2_of) log2_rows)
unfolding all_pass gives log2_rows to_bits of_bits log2_of log2_bits log2_mantissa log2_series log2_coefficients lt horner of_int add sub mul div
log2_agrees = tt
