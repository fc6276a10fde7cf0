-- log2 IN BINARY32: docs/SPECIFICATION.md, "Functions". Each operation is rounded once, in the order written. Definitions only.
use Rattle.std.specs.Prelude.{cond, List, [], ◌∷◌, ℕ, ◌+◌, ◌/◌, ◌%◌, pos, ◌-ℤ◌, Float}
use Rattle.std.specs.Float.{binary32}
use Rattle.std.specs.Float.Ieee.{to_bits, of_int, lt}
use Rattle.exact.specs.Binary32.{◌⊕◌, ◌⊖◌, ◌⊗◌, ◌⊘◌, bits, zero₃₂, one₃₂}
use Rattle.series.specs.Horner.{horner}

-- 1, 1/3, 1/5, 1/7, 1/9
unfoldable pub log2_coefficients : List Float
log2_coefficients = one₃₂ ∷ bits 0x3eaa_aaab ∷ bits 0x3e4c_cccd ∷ bits 0x3e12_4925 ∷ bits 0x3de3_8e39 ∷ []

-- u + u³/3 + u⁵/5 + u⁷/7 + u⁹/9, times 2.88539
unfoldable pub log2_series : Float → Float
log2_series u = (u ⊗ horner log2_coefficients (u ⊗ u)) ⊗ bits 0x4038_aa3b

-- of a mantissa m from 1 to below 2: u is (m - 1) / (m + 1)
unfoldable pub log2_mantissa : Float → Float
log2_mantissa m = log2_series ((m ⊖ one₃₂) ⊘ (m ⊕ one₃₂))

-- By a bit pattern with no sign: the exponent's field less 127, and the digits under a field of 127.
unfoldable pub log2_bits : ℕ → Float
log2_bits b = of_int binary32 (pos (b / 0x80_0000) -ℤ pos 127) ⊕ log2_mantissa (bits (0x3f80_0000 + b % 0x80_0000))

-- The logarithm to base two, and -126 for zero, a negative number and a NaN. A subnormal number goes by its bits, and so does +infinity: 128.
unfoldable pub log2_of : Float → Float
log2_of x = cond (lt zero₃₂ x) (log2_bits (to_bits binary32 x)) (bits 0xc2fc_0000)
