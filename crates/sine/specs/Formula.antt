-- sin_turns IN BINARY32: docs/SPECIFICATION.md, "Functions". Each operation is rounded once, in the order written. Definitions only.
use Rattle.std.specs.Prelude.{cond, List, [], ◌∷◌, Float}
use Rattle.std.specs.Float.Ieee.{neg, lt}
use Rattle.exact.specs.Binary32.{◌⊖◌, ◌⊗◌, bits, quarter₃₂, half₃₂, one₃₂}
use Rattle.floor.specs.Formula.{fract_of}
use Rattle.series.specs.Horner.{horner}

-- 1, -1/6, 1/120, -1/5040, 1/362880
unfoldable pub sine_coefficients : List Float
sine_coefficients = one₃₂ ∷ bits 0xbe2a_aaab ∷ bits 0x3c08_8889 ∷ bits 0xb950_0d01 ∷ bits 0x3638_ef1d ∷ []

-- from 0..1 to the half turn and to the quarter turn, and the half's sign
unfoldable pub half_of : Float → Float
half_of c = cond (lt c half₃₂) c (c ⊖ half₃₂)

unfoldable pub quarter_of : Float → Float
quarter_of h = cond (lt quarter₃₂ h) (half₃₂ ⊖ h) h

unfoldable pub sign_of : Float → Float
sign_of c = cond (lt c half₃₂) one₃₂ (neg one₃₂)

-- of an angle in radians, and of a quarter turn: 6.2831855 is a turn
unfoldable pub sine_of_angle : Float → Float
sine_of_angle a = a ⊗ horner sine_coefficients (a ⊗ a)

unfoldable pub sine_of_quarter : Float → Float
sine_of_quarter q = sine_of_angle (q ⊗ bits 0x40c9_0fdb)

unfoldable pub sine_of_cycle : Float → Float
sine_of_cycle c = sign_of c ⊗ sine_of_quarter (quarter_of (half_of c))

-- The sine of a number of turns.
unfoldable pub sin_turns_of : Float → Float
sin_turns_of x = sine_of_cycle (fract_of x)
