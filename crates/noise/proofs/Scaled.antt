-- THE SCATTER SCALED BY A LEVEL, ANALYSED: the inputs are the scatter and the level. Assumes nothing.
use lib.Dec.{T}
use lib.Ieee.{binary32, of_bits}
use Rattle.exact.specs.Binary32.{half₃₂}
use Rattle.rounding.proofs.Analyser.{Expr, var, constant, plus, minus, times, analyse, certified}
use Rattle.rounding.proofs.Inputs.{range, two}
use Rattle.curve.proofs.LevelInput.{unit}

unfoldable pub scaled : Expr
scaled = plus (constant half₃₂) (times (minus (var 0) (constant half₃₂)) (var 1))

pub scaled_ok : T (certified binary32 (two unit unit) scaled 1 262144)
unfolding certified analyse scaled unit range two of_bits
scaled_ok = tt
