-- A SPIKE, ANALYSED: the inputs are the distance, at most 1 / 32 with an error of at most 2 ^ -29, and the tap's height. Assumes nothing.
use Prim.Native.Nat.{◌^◌}
use lib.IntN.{pos}
use lib.Dec.{T}
use lib.Ieee.{binary32, of_bits}
use Rattle.exact.specs.Binary32.{one₃₂}
use Rattle.rounding.proofs.Analyser.{Bound, Expr, var, constant, minus, times, over, analyse, certified}
use Rattle.rounding.proofs.Inputs.{range, two}
use Rattle.curve.proofs.LevelInput.{unit}
use Rattle.taps.specs.Formula.{tap_width}

unfoldable pub distance : Bound
distance = record { lo = pos 0; hi = pos (2 ^ 144); err = 2 ^ 120 }

unfoldable pub spike : Expr
spike = times (var 1) (minus (constant one₃₂) (over (var 0) (constant tap_width)))

pub spike_ok : T (certified binary32 (two distance unit) spike 1 262144)
unfolding certified analyse spike distance unit range two of_bits
spike_ok = tt
