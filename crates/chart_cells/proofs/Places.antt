-- THE SIX PLACES OF A BEND: a quarter of it is exact and lies from 0 to 1, so that four millionths of the quarter are millionths of the bend. One computed test over the 256 curve bytes. Assumes nothing.
use mathlib.Core.Path.{◌≡◌}
use Prim.Native.Nat.{ℕ, ◌<◌}
use lib.Dec.{T, eqb→eq}
use lib.Ieee.{of_bits, of_int, is_nan, lt, add, sub, mul, div}
use Rattle.exact.specs.Fraction.{ratio, ◌*ℚ◌}
use Rattle.exact.specs.Value.{value}
use Rattle.exact.specs.Binary32.{◌⊗◌, quarter₃₂}
use Rattle.series.specs.Horner.{horner}
use Rattle.math.specs.Formulas.{clamp_of}
use Rattle.floor.specs.Formula.{floor_of, fract_of}
use Rattle.exp2.specs.Formula.{exp2_scale, exp2_coefficients, exp2_within, exp2_of}
use Rattle.curve.specs.Curve.{position_of}
use Rattle.lists.proofs.Every.{every, each}
use Rattle.bends.specs.Formula.{bend_of}
use Rattle.fixed_point.specs.Nearest.{nearestℚ, nearest_of}
use Rattle.chart_cells.proofs.Quarters.{quarters}

all_quarters : T (every quarters 256)
unfolding every quarters nearest_of position_of is_nan bend_of lt exp2_of exp2_within clamp_of floor_of fract_of exp2_scale exp2_coefficients horner value of_bits of_int add sub mul div
all_quarters = tt

pub millionths : (c : ℕ) → c < 256 → nearest_of (bend_of c ⊗ quarter₃₂) 4000000 ≡ nearestℚ (value (bend_of c) *ℚ ratio 1000000 1)
unfolding quarters
millionths c h = eqb→eq _ _ (each quarters 256 c all_quarters h)
