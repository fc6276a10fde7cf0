-- ONE LEVEL ABOVE ANOTHER BY MORE THAN 1/512, as floats. Assumes nothing.
use mathlib.Core.Bool.{Bool}
use lib.Ieee.{Float, lt}
use Rattle.exact.specs.Binary32.{◌⊖◌, bits}

abbrev pub is_above : Float → Float → Bool
is_above x y = lt y (x ⊖ bits 0x3b00_0000)
