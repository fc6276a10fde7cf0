-- THE STRETCHES OF AN ENVELOPE, ANALYSED: a bend, and the blends of two levels, each against 128 * 2 ^ -24. Assumes nothing.
use Prim.Native.Nat.{◌-◌, ◌^◌}
use lib.IntN.{pos, negsuc}
use lib.Dec.{T}
use lib.Ieee.{binary32, of_bits}
use Rattle.exact.specs.Binary32.{one₃₂}
use Rattle.rounding.proofs.Analyser.{Bound, Expr, var, constant, plus, minus, times, analyse}
use Rattle.rounding.proofs.Inputs.{range, two, three, covers, concludes}
use Rattle.curve.proofs.LevelInput.{unit}
use Rattle.envelope.proofs.DivideError.{divide_bound}
use Rattle.envelope.proofs.BendError.{bent_bound}

-- a level, from -1 to 2 as intervals see it, off by at most 1 / 131,072
unfoldable pub level_bound : Bound
level_bound = record { lo = negsuc (2 ^ 149 - 1); hi = pos (2 ^ 150); err = 2 ^ 132 }

-- a bend is one; and the blends of two levels are, as expressions
pub attack_ok : T (covers bent_bound level_bound)
unfolding covers bent_bound level_bound
attack_ok = tt

unfoldable pub decay : Expr
decay = plus (constant one₃₂) (times (minus (var 0) (constant one₃₂)) (var 1))

pub decay_ok : T (concludes binary32 (two unit bent_bound) decay level_bound)
unfolding concludes covers analyse decay unit bent_bound level_bound range two of_bits
decay_ok = tt

unfoldable pub sustain : Expr
sustain = plus (var 0) (times (minus (var 1) (var 0)) (var 2))

pub sustain_ok : T (concludes binary32 (three unit unit divide_bound) sustain level_bound)
unfolding concludes covers analyse sustain unit divide_bound level_bound range three of_bits
sustain_ok = tt

unfoldable pub release : Expr
release = times (var 0) (minus (constant one₃₂) (var 1))

pub release_ok : T (concludes binary32 (two unit bent_bound) release level_bound)
unfolding concludes covers analyse release unit bent_bound level_bound range two of_bits
release_ok = tt
