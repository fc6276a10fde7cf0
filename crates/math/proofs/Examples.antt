-- THE FORMULAS HELD AGAINST THE RUST, its own min, max, clamp and abs of f32. Assumes nothing.
-- Every row was printed by reference/math/run, built with rustc 1.95.0. A NaN is written 0x7fc0_0000 in both.
-- Left out for the sign of a zero: min and max of two zeros, one or both -0 (Rust gives either of the two, we give +0), and -0 clamped to 0..1 (open in Rust, we give -0).
use mathlib.Core.List.{List, [], ◌∷◌}
use Prim.Native.Nat.{ℕ}
use lib.Dec.{T}
use lib.Ieee.{of_bits, to_bits, lt, eq, is_nan}
use Rattle.lists.proofs.Rows.{all_pass}
use Rattle.exact.specs.Binary32.{bits, zero₃₂, one₃₂}
use Rattle.math.specs.Formulas.{min_of, max_of, clamp_of, abs_of}
use Rattle.math.proofs.Rows.{gives, gives_of_two}

-- ---- min and max, of the same pairs
min_rows : List (ℕ × ℕ × ℕ)
min_rows =
    (0x7fc0_0000, 0x7fc0_0000, 0x7fc0_0000) ∷ (0x7fc0_0000, 0x3f80_0000, 0x3f80_0000) ∷ (0x3f80_0000, 0x7fc0_0000, 0x3f80_0000) ∷ (0x7fc0_0000, 0xff80_0000, 0xff80_0000)
    ∷ (0x8000_0000, 0x7fc0_0000, 0x8000_0000) ∷ (0x7f80_0000, 0xff80_0000, 0xff80_0000) ∷ (0xff80_0000, 0x7f80_0000, 0xff80_0000) ∷ (0x7f80_0000, 0x7f7f_ffff, 0x7f7f_ffff)
    ∷ (0xff7f_ffff, 0xff80_0000, 0xff80_0000) ∷ (0x0000_0000, 0x0000_0001, 0x0000_0000) ∷ (0x0000_0001, 0x8000_0000, 0x8000_0000) ∷ (0x8000_0001, 0x0000_0000, 0x8000_0001)
    ∷ (0x8000_0000, 0x8000_0001, 0x8000_0001) ∷ (0x007f_ffff, 0x0080_0000, 0x007f_ffff) ∷ (0x3f80_0000, 0x3f80_0001, 0x3f80_0000) ∷ (0xbf80_0000, 0xbf80_0001, 0xbf80_0001)
    ∷ (0xbf00_0000, 0xbf00_0000, 0xbf00_0000) ∷ (0x0000_0000, 0x0000_0000, 0x0000_0000) ∷ []

min_agrees : T (all_pass (gives_of_two min_of) min_rows)
unfolding all_pass gives_of_two min_rows to_bits of_bits min_of lt eq is_nan
min_agrees = tt

max_rows : List (ℕ × ℕ × ℕ)
max_rows =
    (0x7fc0_0000, 0x7fc0_0000, 0x7fc0_0000) ∷ (0x7fc0_0000, 0x3f80_0000, 0x3f80_0000) ∷ (0x3f80_0000, 0x7fc0_0000, 0x3f80_0000) ∷ (0x7fc0_0000, 0xff80_0000, 0xff80_0000)
    ∷ (0x8000_0000, 0x7fc0_0000, 0x8000_0000) ∷ (0x7f80_0000, 0xff80_0000, 0x7f80_0000) ∷ (0xff80_0000, 0x7f80_0000, 0x7f80_0000) ∷ (0x7f80_0000, 0x7f7f_ffff, 0x7f80_0000)
    ∷ (0xff7f_ffff, 0xff80_0000, 0xff7f_ffff) ∷ (0x0000_0000, 0x0000_0001, 0x0000_0001) ∷ (0x0000_0001, 0x8000_0000, 0x0000_0001) ∷ (0x8000_0001, 0x0000_0000, 0x0000_0000)
    ∷ (0x8000_0000, 0x8000_0001, 0x8000_0000) ∷ (0x007f_ffff, 0x0080_0000, 0x0080_0000) ∷ (0x3f80_0000, 0x3f80_0001, 0x3f80_0001) ∷ (0xbf80_0000, 0xbf80_0001, 0xbf80_0000)
    ∷ (0xbf00_0000, 0xbf00_0000, 0xbf00_0000) ∷ (0x0000_0000, 0x0000_0000, 0x0000_0000) ∷ []

max_agrees : T (all_pass (gives_of_two max_of) max_rows)
unfolding all_pass gives_of_two max_rows to_bits of_bits max_of lt eq is_nan
max_agrees = tt

-- ---- clamp to 0..1
clamp_unit_rows : List (ℕ × ℕ)
clamp_unit_rows =
    (0x7fc0_0000, 0x7fc0_0000) ∷ (0x7f80_0000, 0x3f80_0000) ∷ (0xff80_0000, 0x0000_0000) ∷ (0x0000_0000, 0x0000_0000) ∷ (0x0000_0001, 0x0000_0001)
    ∷ (0x8000_0001, 0x0000_0000) ∷ (0x007f_ffff, 0x007f_ffff) ∷ (0x0080_0000, 0x0080_0000) ∷ (0x7f7f_ffff, 0x3f80_0000) ∷ (0xff7f_ffff, 0x0000_0000)
    ∷ (0x3f00_0000, 0x3f00_0000) ∷ (0xbf00_0000, 0x0000_0000) ∷ (0x3f7f_ffff, 0x3f7f_ffff) ∷ (0x3f80_0000, 0x3f80_0000) ∷ (0x3f80_0001, 0x3f80_0000) ∷ []

clamp_unit_agrees : T (all_pass (gives (clamp_of zero₃₂ one₃₂)) clamp_unit_rows)
unfolding all_pass gives clamp_unit_rows to_bits of_bits clamp_of lt
clamp_unit_agrees = tt

-- ---- clamp to -126..127
clamp_powers_rows : List (ℕ × ℕ)
clamp_powers_rows =
    (0x7fc0_0000, 0x7fc0_0000) ∷ (0x7f80_0000, 0x42fe_0000) ∷ (0xff80_0000, 0xc2fc_0000) ∷ (0x0000_0000, 0x0000_0000) ∷ (0x8000_0000, 0x8000_0000)
    ∷ (0x8000_0001, 0x8000_0001) ∷ (0x7f7f_ffff, 0x42fe_0000) ∷ (0xff7f_ffff, 0xc2fc_0000) ∷ (0xc2fb_ffff, 0xc2fb_ffff) ∷ (0xc2fc_0000, 0xc2fc_0000)
    ∷ (0xc2fc_0001, 0xc2fc_0000) ∷ (0x42fd_ffff, 0x42fd_ffff) ∷ (0x42fe_0000, 0x42fe_0000) ∷ (0x42fe_0001, 0x42fe_0000) ∷ (0xb089_705f, 0xb089_705f)
    ∷ (0x41c0_0000, 0x41c0_0000) ∷ []

clamp_powers_agrees : T (all_pass (gives (clamp_of (bits 0xc2fc_0000) (bits 0x42fe_0000))) clamp_powers_rows)
unfolding all_pass gives clamp_powers_rows to_bits of_bits clamp_of lt
clamp_powers_agrees = tt

-- ---- abs
abs_rows : List (ℕ × ℕ)
abs_rows =
    (0x7fc0_0000, 0x7fc0_0000) ∷ (0x7f80_0000, 0x7f80_0000) ∷ (0xff80_0000, 0x7f80_0000) ∷ (0x0000_0000, 0x0000_0000) ∷ (0x8000_0000, 0x0000_0000)
    ∷ (0x0000_0001, 0x0000_0001) ∷ (0x8000_0001, 0x0000_0001) ∷ (0x007f_ffff, 0x007f_ffff) ∷ (0x0080_0000, 0x0080_0000) ∷ (0x7f7f_ffff, 0x7f7f_ffff)
    ∷ (0xff7f_ffff, 0x7f7f_ffff) ∷ (0x3f00_0000, 0x3f00_0000) ∷ (0xbf00_0000, 0x3f00_0000) ∷ (0x3f7f_ffff, 0x3f7f_ffff) ∷ (0x3f80_0000, 0x3f80_0000)
    ∷ (0x3f80_0001, 0x3f80_0001) ∷ []

abs_agrees : T (all_pass (gives abs_of) abs_rows)
unfolding all_pass gives abs_rows to_bits of_bits abs_of
abs_agrees = tt
