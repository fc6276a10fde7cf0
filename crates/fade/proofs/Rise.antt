-- THE RISE OF A FADE, ANALYSED: the end is at least one quantum, and the quotient lies from 0 to 1. Assumes nothing.
use Prim.Native.Nat.{◌^◌}
use lib.IntN.{pos}
use lib.Dec.{T}
use lib.Ieee.{binary32, of_bits}
use Rattle.rounding.proofs.Analyser.{Bound, Expr, var, quotient, analyse, certified}
use Rattle.rounding.proofs.Inputs.{range, two}
use Rattle.curve.proofs.LevelInput.{unit}

unfoldable pub rise : Expr
rise = quotient (pos 0) (pos (2 ^ 149)) (var 0) (var 1)

unfoldable pub ends : Bound
ends = record { lo = pos 1; hi = pos (2 ^ 149); err = 0 }

pub rise_ok : T (certified binary32 (two unit ends) rise 1 262144)
unfolding certified analyse rise ends unit range two of_bits
rise_ok = tt
