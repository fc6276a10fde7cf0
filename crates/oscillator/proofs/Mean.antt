-- THE MEAN OF THE WAVES THAT ARE ON, ANALYSED: the inputs are the level, the saw and the pulse. Assumes nothing.
use mathlib.Core.Bool.{Bool, true, false}
use lib.Dec.{T}
use lib.Ieee.{Float, binary32, of_bits}
use Rattle.exact.specs.Binary32.{bits, zero₃₂, half₃₂, one₃₂}
use Rattle.rounding.proofs.Analyser.{Expr, var, constant, plus, times, over, analyse, certified}
use Rattle.rounding.proofs.Inputs.{range, three}
use Rattle.curve.proofs.LevelInput.{unit}
use Rattle.oscillator.proofs.WaveError.{wave}

unfoldable pub mean : Expr → Float → Expr
mean sum count = plus (constant half₃₂) (over (times (times (constant half₃₂) (var 0)) sum) (constant count))

unfoldable pub mix : Bool → Bool → Expr
unfolding mean
mix false false = constant half₃₂
mix true false = mean (plus (constant zero₃₂) (var 1)) one₃₂
mix false true = mean (plus (constant zero₃₂) (var 2)) one₃₂
mix true true = mean (plus (plus (constant zero₃₂) (var 1)) (var 2)) (bits 0x4000_0000)

pub mix_ok : (s p : Bool) → T (certified binary32 (three unit wave wave) (mix s p) 1 262144)
unfolding certified analyse mix mean unit wave range three of_bits
mix_ok false false = tt
mix_ok true false = tt
mix_ok false true = tt
mix_ok true true = tt
