-- THE SINE OF AN LFO, ANALYSED, of what `sin_turns` gives. Assumes nothing.
use lib.Dec.{T}
use lib.Ieee.{binary32, of_bits}
use Rattle.exact.specs.Binary32.{half₃₂}
use Rattle.rounding.proofs.Analyser.{Expr, var, constant, plus, times, analyse}
use Rattle.rounding.proofs.Inputs.{one, covers, concludes}
use Rattle.sine.proofs.SineEnclosure.{sine_bound}
use Rattle.lfo_shapes.proofs.Bounded.{shape_bound}

unfoldable pub wave : Expr
wave = plus (constant half₃₂) (times (constant half₃₂) (var 0))

pub wave_ok : T (concludes binary32 (one sine_bound) wave shape_bound)
unfolding concludes analyse covers wave sine_bound shape_bound one of_bits
wave_ok = tt
