-- AN ENVELOPE'S SETTINGS HELD AGAINST THE RUST. A row is the bytes, then what they give: a float by its bits. Assumes nothing.
-- Every row was printed by reference/settings/run, built with rustc 1.95.0 over the unchanged math.rs and generator.rs
-- (deepmind-midi, commit a25f50498d).
use mathlib.Core.Bool.{Bool, ◌&&◌}
use mathlib.Core.List.{List, [], ◌∷◌}
use Prim.Native.Nat.{ℕ}
use lib.Dec.{T, eqb}
use lib.Ieee.{Float, binary32, of_bits, to_bits, of_int, add, sub, mul, div, neg, lt}
use Rattle.exact.specs.Value.{value}
use Rattle.series.specs.Horner.{horner}
use Rattle.math.specs.Formulas.{clamp_of}
use Rattle.floor.specs.Formula.{floor_of, fract_of}
use Rattle.exp2.specs.Formula.{exp2_scale, exp2_coefficients, exp2_within, exp2_of}
use Rattle.lists.proofs.Rows.{all_pass}
use Rattle.settings.specs.Settings.{byte_of}
use Rattle.bends.specs.Formula.{bend_of}
use Rattle.envelope_settings.specs.Formula.{total_of, first_of, second_of, third_of, slope_of, sloped, sustain_end_of, envelope_of}

-- the float has these bits
is : Float → ℕ → Bool
is x b = eqb (to_bits binary32 x) b

-- ---- an envelope's ends, by attack, decay and release: with no release the third is 1, just below 1 (255 and 254) or just above it (255 and 193)
ends_rows : List (ℕ × ℕ × ℕ × ℕ × ℕ × ℕ)
ends_rows =
    (0, 0, 0, 0x0000_0000, 0x0000_0000, 0x3f80_0000) ∷ (255, 255, 0, 0x3ecc_cccd, 0x3f4c_cccd, 0x3f80_0000)
    ∷ (255, 254, 0, 0x3ecd_1f2b, 0x3f4c_b834, 0x3f7f_ffff) ∷ (255, 193, 0, 0x3ee2_dd15, 0x3f47_48bc, 0x3f80_0001)
    ∷ (255, 255, 255, 0x3e92_4925, 0x3f12_4925, 0x3f36_db6e) ∷ (255, 0, 0, 0x3f2a_aaab, 0x3f2a_aaab, 0x3f80_0000)
    ∷ (0, 255, 0, 0x0000_0000, 0x3f2a_aaab, 0x3f80_0000) ∷ (0, 0, 255, 0x0000_0000, 0x0000_0000, 0x3eaa_aaab)
    ∷ (1, 2, 3, 0x3bf5_7405, 0x3cb8_1704, 0x3f7a_3f48) ∷ (40, 90, 200, 0x3db3_0f63, 0x3e91_7c81, 0x3f10_1662) ∷ []

ends_row : ℕ × ℕ × ℕ × ℕ × ℕ × ℕ → Bool
ends_row r = let e = envelope_of r.0 r.1 0 r.2 0 0 0 0 in is e.first r.3 && is e.second r.4 && is e.third r.5

ends_agrees : T (all_pass ends_row ends_rows)
unfolding all_pass ends_row ends_rows is to_bits of_bits of_int envelope_of first_of second_of third_of total_of byte_of add div
ends_agrees = tt

-- ---- where the sustain ends, by its level and curve
sustain_rows : List (ℕ × ℕ × ℕ)
sustain_rows =
    (255, 0, 0x0000_0000) ∷ (255, 255, 0x3f80_0000) ∷ (0, 0, 0x0000_0000) ∷ (0, 255, 0x3f80_0000) ∷ (128, 127, 0x3eff_feff)
    ∷ (128, 128, 0x3f01_0081) ∷ (200, 3, 0x3c97_2dc4) ∷ (17, 240, 0x3f63_e3e4) ∷ (254, 254, 0x3f7f_fdfc) ∷ (1, 1, 0x3801_0182) ∷ []

sustain_row : ℕ × ℕ × ℕ → Bool
sustain_row r = is (sustain_end_of r.0 r.1) r.2

sustain_agrees : T (all_pass sustain_row sustain_rows)
unfolding all_pass sustain_row sustain_rows is to_bits of_bits of_int sustain_end_of sloped slope_of byte_of lt neg add sub mul div
sustain_agrees = tt

-- ---- a whole envelope: attack, decay, sustain, release, their curves, then the eight settings
envelope_rows : List (ℕ × ℕ × ℕ × ℕ × ℕ × ℕ × ℕ × ℕ × ℕ × ℕ × ℕ × ℕ × ℕ × ℕ × ℕ × ℕ)
envelope_rows =
    (40, 90, 200, 17, 10, 100, 190, 240, 0x3e15_377c, 0x3ef2_7a2a, 0x3f70_254c, 0x3f48_c8c9, 0x3f63_d9d0, 0x3e8e_a43a, 0x3f3d_08a4, 0x4057_44fc)
    ∷ (0, 255, 1, 254, 255, 0, 60, 129, 0x0000_0000, 0x3ecd_1f2b, 0x3f19_d760, 0x3b80_8081, 0x3af1_e2d4, 0x407d_3e0b, 0x3e80_0000, 0x3f81_64d2) ∷ []

envelope_row : ℕ × ℕ × ℕ × ℕ × ℕ × ℕ × ℕ × ℕ × ℕ × ℕ × ℕ × ℕ × ℕ × ℕ × ℕ × ℕ → Bool
envelope_row r =
    let e = envelope_of r.0 r.1 r.2 r.3 r.4 r.5 r.6 r.7 in
    is e.first r.8 && is e.second r.9 && is e.third r.10 && is e.sustain r.11 && is e.sustain_end r.12
    && is e.attack_bend r.13 && is e.decay_bend r.14 && is e.release_bend r.15

envelope_agrees : T (all_pass envelope_row envelope_rows)
unfolding all_pass envelope_row envelope_rows is to_bits of_bits of_int envelope_of first_of second_of third_of total_of byte_of sustain_end_of sloped slope_of bend_of exp2_of exp2_within exp2_coefficients clamp_of lt horner fract_of floor_of exp2_scale value neg add sub mul div
envelope_agrees = tt
