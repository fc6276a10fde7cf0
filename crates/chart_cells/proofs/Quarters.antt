-- THE MILLIONTHS OF A BEND BY ITS QUARTER, as one test for each curve byte. Assumes nothing.
use mathlib.Core.Bool.{Bool}
use Prim.Native.Nat.{ℕ}
use lib.Dec.{eqb}
use Rattle.exact.specs.Fraction.{ratio, ◌*ℚ◌}
use Rattle.exact.specs.Value.{value}
use Rattle.exact.specs.Binary32.{◌⊗◌, quarter₃₂}
use Rattle.bends.specs.Formula.{bend_of}
use Rattle.fixed_point.specs.Nearest.{nearestℚ, nearest_of}

unfoldable pub quarters : ℕ → Bool
quarters c = eqb (nearest_of (bend_of c ⊗ quarter₃₂) 4000000) (nearestℚ (value (bend_of c) *ℚ ratio 1000000 1))
