-- THE LIMIT OF A CYCLE, ANALYSED, for a slew from 1/255 to 1. Assumes nothing.
use Prim.Native.Nat.{◌*◌, ◌^◌}
use lib.IntN.{pos}
use lib.Dec.{T}
use lib.Ieee.{Float, binary32, of_bits}
use Rattle.exact.specs.Binary32.{bits, one₃₂}
use Rattle.rounding.proofs.Analyser.{Bound, Expr, var, constant, over, analyse}
use Rattle.rounding.proofs.Inputs.{range, covers, one, concludes}

abbrev pub two₃₂ : Float
two₃₂ = bits 0x4000_0000

unfoldable pub slew_bound : Bound
unfolding range
slew_bound = range binary32 (bits 0x3b80_8081) one₃₂

unfoldable pub limit : Expr
limit = over (constant two₃₂) (var 0)

-- from 1 to 512
unfoldable pub limit_bound : Bound
limit_bound = record { lo = pos (2 ^ 149); hi = pos (512 * 2 ^ 149); err = 2 ^ 149 }

pub limit_ok : T (concludes binary32 (one slew_bound) limit limit_bound)
unfolding concludes covers analyse limit slew_bound limit_bound range one of_bits
limit_ok = tt
