-- THE FLOOR IN BINARY32, and what it leaves: docs/SPECIFICATION.md, "Functions". Each operation is rounded once, in the order written. Definitions only.
use Rattle.std.specs.Prelude.{Float}
use Rattle.std.specs.Float.{nan, inf, fin, binary32}
use Rattle.std.specs.Float.Ieee.{of_int}
use Rattle.exact.specs.Fraction.{floorℚ}
use Rattle.exact.specs.Value.{value}
use Rattle.exact.specs.Binary32.{◌⊖◌}

-- The largest whole number not above x, as a float: +0 for -0. A NaN and an infinity are themselves.
unfoldable pub floor_of : Float → Float
floor_of nan = nan
floor_of (inf s) = inf s
floor_of (fin s m e) = of_int binary32 (floorℚ (value (fin s m e)))

-- What is left of x above its floor, rounded once.
-- Of a small x below 0 that may be 1.
unfoldable pub fract_of : Float → Float
fract_of x = x ⊖ floor_of x
