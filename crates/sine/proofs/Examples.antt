-- THE FORMULA HELD AGAINST THE RUST. Assumes nothing.
-- Every row was printed by reference/math/run, built with rustc 1.95.0 over the unchanged math.rs (deepmind-midi, commit a25f50498d). A NaN is written 0x7fc0_0000 in both.
use mathlib.Core.List.{List, [], ◌∷◌}
use Prim.Native.Nat.{ℕ}
use lib.Dec.{T}
use lib.Ieee.{to_bits, of_bits, of_int, add, sub, mul, neg, lt}
use Rattle.lists.proofs.Rows.{all_pass}
use Rattle.exact.specs.Value.{value}
use Rattle.math.proofs.Rows.{gives}
use Rattle.floor.specs.Formula.{floor_of, fract_of}
use Rattle.series.specs.Horner.{horner}
use Rattle.sine.specs.Formula.{sin_turns_of, sine_of_cycle, sine_of_quarter, sine_of_angle, sine_coefficients, half_of, quarter_of, sign_of}

-- ---- sin_turns: a quarter and a half with their neighbours, three quarters, 0.99999994, 6, 5.3, -1, -0.99, -1/96; at one of the last two a change of the last bit of any coefficient shows
sin_turns_rows : List (ℕ × ℕ)
sin_turns_rows =
    (0x7fc0_0000, 0x7fc0_0000) ∷ (0xff80_0000, 0x7fc0_0000) ∷ (0x8000_0000, 0x8000_0000) ∷ (0x0000_0001, 0x0000_0006) ∷ (0x8000_0001, 0x8000_0000)
    ∷ (0x3e80_0000, 0x3f80_001e) ∷ (0x3e7f_ffff, 0x3f80_001e) ∷ (0x3e80_0001, 0x3f80_001d) ∷ (0x3f00_0000, 0x8000_0000) ∷ (0x3eff_ffff, 0x3449_0fdb)
    ∷ (0x3f00_0001, 0xb4c9_0fdb) ∷ (0x3f40_0000, 0xbf80_001e) ∷ (0x3f7f_ffff, 0xb4c9_0fdb) ∷ (0x40c0_0000, 0x0000_0000) ∷ (0x40a9_999a, 0x3f73_786f)
    ∷ (0xbf80_0000, 0x0000_0000) ∷ (0xbf7d_70a4, 0x3d80_9849) ∷ (0xbc2a_aaab, 0xbd85_f224) ∷ (0x3e7c_a519, 0x3f7f_f24f) ∷ (0x3e7f_cfb6, 0x3f80_0018) ∷ []

sin_turns_agrees : T (all_pass (gives sin_turns_of) sin_turns_rows)
unfolding all_pass gives sin_turns_rows to_bits of_bits sin_turns_of sine_of_cycle sine_of_quarter sine_of_angle sine_coefficients half_of quarter_of sign_of lt neg horner fract_of floor_of value of_int add sub mul
sin_turns_agrees = tt
