-- THE GLIDE FROM A SAMPLE TO THE NEXT, ANALYSED: the inputs are the two samples and the part of the way, from 0 to 1. Assumes nothing.
use Prim.Native.Nat.{◌^◌}
use lib.IntN.{pos}
use lib.Dec.{T}
use lib.Ieee.{binary32, of_bits}
use Rattle.rounding.proofs.Analyser.{Bound, Expr, var, plus, minus, times, enclosed, analyse}
use Rattle.rounding.proofs.Inputs.{three, covers, concludes}

-- exact, from 0 to 1, in quanta, 2 ^ 149 of which are 1
unfoldable pub unit : Bound
unit = record { lo = pos 0; hi = pos (2 ^ 149); err = 0 }

-- of two roundings and a product: 2 ^ -22
unfoldable pub blend_bound : Bound
blend_bound = record { lo = pos 0; hi = pos (2 ^ 149); err = 2 ^ 127 }

unfoldable pub inside : Expr → Expr
inside e = enclosed (pos 0) (pos (2 ^ 149)) e

unfoldable pub mix : Expr
mix = plus (var 0) (times (minus (var 1) (var 0)) (var 2))

unfoldable pub blend : Expr
unfolding inside mix
blend = inside mix

pub blend_ok : T (concludes binary32 (three unit unit unit) blend blend_bound)
unfolding concludes analyse covers blend inside mix unit blend_bound three of_bits
blend_ok = tt
