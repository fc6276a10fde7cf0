-- THE WAVES OF AN OSCILLATOR, ANALYSED: both lie from -1 to 1. Assumes nothing.
use mathlib.Core.Path.{◌≡◌, refl}
use Prim.Native.Nat.{◌-◌, ◌^◌}
use lib.IntN.{pos, negsuc}
use lib.Dec.{T}
use lib.Ieee.{binary32, of_bits, neg, mul, sub}
use Rattle.exact.specs.Binary32.{bits, zero₃₂, one₃₂}
use Rattle.rounding.proofs.Analyser.{Bound, Expr, var, constant, minus, times, analyse}
use Rattle.rounding.proofs.Inputs.{range, one, covers, concludes}
use Rattle.curve.proofs.LevelInput.{unit}
use Rattle.oscillator.specs.Formula.{saw_of}

unfoldable pub wave : Bound
wave = record { lo = negsuc (2 ^ 149 - 1); hi = pos (2 ^ 149); err = 2 ^ 126 }

-- the saw at its edges
pub saw_edges : (saw_of zero₃₂ ≡ neg one₃₂) × (saw_of one₃₂ ≡ one₃₂)
unfolding saw_of of_bits neg mul sub
saw_edges = (refl, refl)

unfoldable pub saw_expr : Expr
saw_expr = minus (times (var 0) (constant (bits 0x4000_0000))) (constant one₃₂)

pub saw_ok : T (concludes binary32 (one unit) saw_expr wave)
unfolding concludes analyse covers saw_expr wave unit range one of_bits
saw_ok = tt
