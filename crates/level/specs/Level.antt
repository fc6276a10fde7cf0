-- WHAT A LEVEL IS: docs/SPECIFICATION.md, "A curve byte for a wanted end". Definitions only.
use Rattle.std.specs.Prelude.{Bool, ◌&&◌, Float}
use Rattle.std.specs.Float.Ieee.{le}
use Rattle.exact.specs.Binary32.{zero₃₂, one₃₂}

-- A number from 0 to 1. No comparison with a NaN holds, so a NaN is none; -0 is one.
unfoldable pub is_level : Float → Bool
is_level x = le zero₃₂ x && le x one₃₂
