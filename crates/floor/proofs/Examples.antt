-- THE FORMULAS HELD AGAINST THE RUST. Assumes nothing.
-- Every row was printed by reference/math/run, built with rustc 1.95.0 over the unchanged math.rs (deepmind-midi, commit a25f50498d). A NaN is written 0x7fc0_0000 in both.
use mathlib.Core.List.{List, [], ◌∷◌}
use Prim.Native.Nat.{ℕ}
use lib.Dec.{T}
use lib.Ieee.{binary32, to_bits, of_bits, of_int, neg, sub, lt}
use Rattle.lists.proofs.Rows.{all_pass}
use Rattle.exact.specs.Value.{value}
use Rattle.math.proofs.Rows.{gives}
use Rattle.floor.specs.Formula.{floor_of, fract_of}
use Rattle.floor.specs.Exponent.{by_exponent}

-- ---- floor: NaN, infinities, zeros, subnormals, 2147483008 and neighbours, 8388607.5, 8388608, -0.5, -1e-9, 0.99999994, 1, -1, -0.25, -2.5, -3, 7.999, 4194304.5, 8388609
floor_rows : List (ℕ × ℕ)
floor_rows =
    (0x7fc0_0000, 0x7fc0_0000) ∷ (0x7f80_0000, 0x7f80_0000) ∷ (0xff80_0000, 0xff80_0000) ∷ (0x0000_0000, 0x0000_0000) ∷ (0x8000_0000, 0x0000_0000)
    ∷ (0x0000_0001, 0x0000_0000) ∷ (0x8000_0001, 0xbf80_0000) ∷ (0x807f_ffff, 0xbf80_0000) ∷ (0x7f7f_ffff, 0x7f7f_ffff) ∷ (0x4eff_fffb, 0x4eff_fffb)
    ∷ (0xceff_fffb, 0xceff_fffb) ∷ (0x4eff_fffc, 0x4eff_fffc) ∷ (0xceff_fffa, 0xceff_fffa) ∷ (0x4aff_ffff, 0x4aff_fffe) ∷ (0xcaff_ffff, 0xcb00_0000)
    ∷ (0x4b00_0000, 0x4b00_0000) ∷ (0xcb00_0000, 0xcb00_0000) ∷ (0xbf00_0000, 0xbf80_0000) ∷ (0xb089_705f, 0xbf80_0000) ∷ (0x3f7f_ffff, 0x0000_0000)
    ∷ (0x3f80_0000, 0x3f80_0000) ∷ (0xbf80_0000, 0xbf80_0000) ∷ (0xbe80_0000, 0xbf80_0000) ∷ (0xc020_0000, 0xc040_0000) ∷ (0xc040_0000, 0xc040_0000)
    ∷ (0x40ff_f7cf, 0x40e0_0000) ∷ (0x4a80_0001, 0x4a80_0000) ∷ (0xca80_0001, 0xca80_0002) ∷ (0x4b00_0001, 0x4b00_0001) ∷ (0xcb00_0001, 0xcb00_0001) ∷ []

floor_agrees : T (all_pass (gives floor_of) floor_rows)
unfolding all_pass gives floor_rows to_bits of_bits floor_of value of_int
floor_agrees = tt

-- by the exponent too
exponent_agrees : T (all_pass (gives (λ x. by_exponent (to_bits binary32 x))) floor_rows)
unfolding all_pass gives floor_rows to_bits of_bits by_exponent sub neg lt
exponent_agrees = tt

-- ---- fract: the same, with -2^-25 and its neighbour, 1, 5.3, -0.99, -1/96
fract_rows : List (ℕ × ℕ)
fract_rows =
    (0x7fc0_0000, 0x7fc0_0000) ∷ (0x7f80_0000, 0x7fc0_0000) ∷ (0xff80_0000, 0x7fc0_0000) ∷ (0x0000_0000, 0x0000_0000) ∷ (0x8000_0000, 0x8000_0000)
    ∷ (0x0000_0001, 0x0000_0001) ∷ (0x8000_0001, 0x3f80_0000) ∷ (0x0080_0000, 0x0080_0000) ∷ (0x7f7f_ffff, 0x0000_0000) ∷ (0x4aff_ffff, 0x3f00_0000)
    ∷ (0xcaff_ffff, 0x3f00_0000) ∷ (0xbf00_0000, 0x3f00_0000) ∷ (0xb089_705f, 0x3f80_0000) ∷ (0xb300_0000, 0x3f80_0000) ∷ (0xb300_0001, 0x3f7f_ffff)
    ∷ (0x3f7f_ffff, 0x3f7f_ffff) ∷ (0x3f80_0000, 0x0000_0000) ∷ (0x40a9_999a, 0x3e99_99a0) ∷ (0xbf7d_70a4, 0x3c23_d700) ∷ (0xbc2a_aaab, 0x3f7d_5555) ∷ []

fract_agrees : T (all_pass (gives fract_of) fract_rows)
unfolding all_pass gives fract_rows to_bits of_bits fract_of floor_of value of_int sub
fract_agrees = tt
