-- IMPULSE TRAINS HELD AGAINST THE RUST. The numbers of a row are those of generator.rs (deepmind-midi, commit a25f50498d). A NaN is written 0x7fc0_0000 in both. Left out for the sign of a zero: a maximum of two zeros of which one is -0 (Rust gives either of the two, we give +0). Assumes nothing.
use mathlib.Core.Path.{◌≡◌, refl}
use mathlib.Core.Bool.{Bool}
use mathlib.Core.List.{List, [], ◌∷◌, map}
use Prim.Native.Nat.{ℕ, zero, suc, ◌<◌}
use native.Mathlib.Omega.{arith}
use lib.Dec.{T, eqb}
use lib.Ieee.{Float, binary32, of_bits, to_bits, fits, is_nan, lt, le, eq, add, sub, mul, div, neg}
use lib.Ieee.Scale.{finite}
use Rattle.exact.specs.Fraction.{ratio}
use Rattle.exact.specs.Value.{value}
use Rattle.exact.specs.Binary32.{bits, zero₃₂, half₃₂}
use Rattle.math.specs.Formulas.{abs_of, max_of, clamp_of}
use Rattle.lists.proofs.Rows.{all_pass}
use Rattle.curve.specs.Curve.{position_of, drawn_of}
use Rattle.curve.proofs.Positions.{Level}
use Rattle.taps.specs.declared.Taps.{Taps}
use Rattle.taps.specs.Formula.{at_of, tall_of, tap_height_of, taps_level_of, taps_height_of}
use Rattle.taps.specs.Exact.{tap_heightℚ, taps_levelℚ, taps_heightℚ}
use Rattle.taps.proofs.Ranges.{TapsRange}

unfoldable pub floats : List ℕ → List Float
floats ns = map (λ (n : ℕ). bits n) ns

-- four positions and four heights by their bits, and how many are used
unfoldable pub taps : List ℕ → List ℕ → ℕ → Taps
taps at tall used = record { at = floats at; tall = floats tall; used = used }

-- there is no fifth tap
past : (i : ℕ) → suc (suc (suc (suc i))) < 4 → ⊥
past i l = omega arith

-- at 0.1, 0.5, 0.51 and 0.9, of the heights 1, 0.8, 0.6 and 0.3
unfoldable pub plain : ℕ → Taps
plain used = taps (0x3dcc_cccd ∷ 0x3f00_0000 ∷ 0x3f02_8f5c ∷ 0x3f66_6666 ∷ []) (0x3f80_0000 ∷ 0x3f4c_cccd ∷ 0x3f19_999a ∷ 0x3e99_999a ∷ []) used

-- a NaN and an infinity among the positions, and two NaNs among the heights
unfoldable pub no_numbers : Taps
no_numbers = taps (0x7fc0_0000 ∷ 0x0000_0000 ∷ 0x7f80_0000 ∷ 0x3f80_0000 ∷ []) (0x3f80_0000 ∷ 0x7fc0_0000 ∷ 0x3f80_0000 ∷ 0x7fc0_0000 ∷ []) 4

-- three taps at one position, of the heights -1, 0.5 and NaN, and one of an infinite height
together : Taps
together = taps (0x3e80_0000 ∷ 0x3e80_0000 ∷ 0x3e80_0000 ∷ 0x3f40_0000 ∷ []) (0xbf80_0000 ∷ 0x3f00_0000 ∷ 0x7fc0_0000 ∷ 0x7f80_0000 ∷ []) 4

-- at -0.01, 1.01, 0.5 and 0.3, of the heights 2, 3e38, minus infinity and the least subnormal
unfoldable pub outside : Taps
outside = taps (0xbc23_d70a ∷ 0x3f81_47ae ∷ 0x3f00_0000 ∷ 0x3e99_999a ∷ []) (0x4000_0000 ∷ 0x7f61_b1e6 ∷ 0xff80_0000 ∷ 0x0000_0001 ∷ []) 4

-- the first of these is within the ranges that the bound asks for
plain_range : TapsRange (plain 4)
unfolding plain taps floats fits le lt eq of_bits
plain_range = record { holds = holds; at = at; tall = tall }
  where
    holds : (i : ℕ) → i < 4 → T (fits binary32 (at_of (plain 4) i))
    holds zero l = tt
    holds (suc zero) l = tt
    holds (suc (suc zero)) l = tt
    holds (suc (suc (suc zero))) l = tt
    holds (suc (suc (suc (suc i)))) l = tt

    at : (i : ℕ) → i < 4 → T (finite (at_of (plain 4) i))
    at zero l = tt
    at (suc zero) l = tt
    at (suc (suc zero)) l = tt
    at (suc (suc (suc zero))) l = tt
    at (suc (suc (suc (suc i)))) l = absurd (past i l)

    tall : (i : ℕ) → i < 4 → Level (tall_of (plain 4) i)
    tall zero l = record { holds = tt; from = tt; to = tt }
    tall (suc zero) l = record { holds = tt; from = tt; to = tt }
    tall (suc (suc zero)) l = record { holds = tt; from = tt; to = tt }
    tall (suc (suc (suc zero))) l = record { holds = tt; from = tt; to = tt }
    tall (suc (suc (suc (suc i)))) l = absurd (past i l)

-- ---- heights
height_rows : List (Taps × ℕ × ℕ)
height_rows =
    (plain 4, 0x0000_0000, 0x0000_0000) ∷ (plain 4, 0x3db8_51ec, 0x3e92_492a) ∷ (plain 4, 0x3dcc_cccd, 0x3f80_0000) ∷ (plain 4, 0x3dd7_0a3d, 0x3f24_924f)
    ∷ (plain 4, 0x3de9_4467, 0x3bea_1100) ∷ (plain 4, 0x3de9_78d5, 0x3400_0000) ∷ (plain 4, 0x3f00_0000, 0x3f4c_cccd) ∷ (plain 4, 0x3f01_47ae, 0x3f03_a83f)
    ∷ (plain 4, 0x3f01_cac1, 0x3ef1_5f4f) ∷ (plain 4, 0x3f02_8f5c, 0x3f19_999a) ∷ (plain 4, 0x3f66_6666, 0x3e99_999a) ∷ (plain 4, 0x3f67_ae14, 0x3e45_7c5f)
    ∷ (plain 4, 0x3f80_0000, 0x0000_0000) ∷ (plain 4, 0x7fc0_0000, 0x0000_0000) ∷ (plain 4, 0x7f80_0000, 0x0000_0000) ∷ (plain 4, 0xff80_0000, 0x0000_0000)
    ∷ (plain 2, 0x3f01_47ae, 0x3f03_a83f) ∷ (plain 2, 0x3f02_8f5c, 0x3e6a_0ec7) ∷ (plain 2, 0x3f66_6666, 0x0000_0000)
    ∷ (plain 5, 0x3dcc_cccd, 0x3f80_0000) ∷ (plain 5, 0x3f66_6666, 0x3e99_999a) ∷ (plain 0, 0x3dcc_cccd, 0x0000_0000)
    ∷ (no_numbers, 0x0000_0000, 0x0000_0000) ∷ (no_numbers, 0x3f00_0000, 0x0000_0000) ∷ (no_numbers, 0x3f80_0000, 0x0000_0000) ∷ (no_numbers, 0x7fc0_0000, 0x0000_0000) ∷ (no_numbers, 0x7f80_0000, 0x0000_0000)
    ∷ (together, 0x3e80_0000, 0x3f00_0000) ∷ (together, 0x3e82_8f5c, 0x3ea4_924f) ∷ (together, 0x3f40_0000, 0x3f80_0000) ∷ (together, 0x3f42_8f5c, 0x3f80_0000)
    ∷ (outside, 0x0000_0000, 0x3f12_4926) ∷ (outside, 0x3f80_0000, 0x3f80_0000) ∷ (outside, 0x3f00_0000, 0x0000_0000) ∷ (outside, 0x3e99_999a, 0x0000_0001)
    ∷ (outside, 0xbf80_0000, 0x3f12_4926) ∷ (outside, 0x4000_0000, 0x3f80_0000) ∷ []

gives : Taps × ℕ × ℕ → Bool
gives r = eqb (to_bits binary32 (taps_height_of r.0 (bits r.1)).height) r.2

heights_agree : T (all_pass gives height_rows)
unfolding all_pass gives height_rows plain no_numbers together outside taps floats to_bits of_bits is_nan lt eq neg add sub mul div abs_of max_of clamp_of position_of drawn_of tap_height_of taps_level_of taps_height_of
heights_agree = tt

-- ---- the exact height: a tap that reaches, and whose height is a NaN, leaves none; taps at no number add nothing
none_reaching : (taps_heightℚ no_numbers zero₃₂).den ≡ 0
unfolding no_numbers taps floats taps_heightℚ taps_levelℚ tap_heightℚ value of_bits is_nan lt add sub neg abs_of clamp_of position_of
none_reaching = refl

nothing_added : taps_heightℚ no_numbers half₃₂ ≡ ratio 0 1
unfolding no_numbers taps floats taps_heightℚ taps_levelℚ tap_heightℚ value of_bits is_nan lt add sub neg abs_of clamp_of position_of
nothing_added = refl
