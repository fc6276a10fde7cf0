-- exp2 IN BINARY32: docs/SPECIFICATION.md, "Functions". Each operation is rounded once, in the order written. Definitions only.
use Rattle.std.specs.Prelude.{false, List, [], ◌∷◌, Float}
use Rattle.std.specs.Float.{nan, inf, fin}
use Rattle.exact.specs.Fraction.{floorℚ}
use Rattle.exact.specs.Value.{value}
use Rattle.exact.specs.Binary32.{◌⊗◌, bits, one₃₂}
use Rattle.math.specs.Formulas.{clamp_of}
use Rattle.floor.specs.Formula.{fract_of}
use Rattle.series.specs.Horner.{horner}

-- 1, 0.6931472, 0.2402265, 0.0555041, 0.0096181, 0.00133336, 0.00015403, 0.00001525, 0.00000132
unfoldable pub exp2_coefficients : List Float
exp2_coefficients =
    one₃₂ ∷ bits 0x3f31_7218 ∷ bits 0x3e75_fdf0 ∷ bits 0x3d63_5844 ∷ bits 0x3c1d_953c ∷ bits 0x3aae_c423 ∷ bits 0x3921_831d ∷ bits 0x377f_da40 ∷ bits 0x35b1_2adb ∷ []

-- 2 to the floor of a number: the float 1 * 2 ^ floor. No infinity comes here.
unfoldable pub exp2_scale : Float → Float
exp2_scale nan = nan
exp2_scale (inf s) = nan
exp2_scale (fin s m e) = fin false 1 (floorℚ (value (fin s m e)))

-- of an x from -126 to 127
unfoldable pub exp2_within : Float → Float
exp2_within x = horner exp2_coefficients (fract_of x) ⊗ exp2_scale x

-- Two to the power x, x clamped to -126..127. A NaN gives a NaN.
unfoldable pub exp2_of : Float → Float
exp2_of x = exp2_within (clamp_of (bits 0xc2fc_0000) (bits 0x42fe_0000) x)
