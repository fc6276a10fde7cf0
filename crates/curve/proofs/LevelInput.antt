-- A LEVEL AS AN INPUT of the analyser: a float from 0 to 1, which stands for its own value. Assumes nothing.
use lib.Ieee.{Float, binary32, of_bits}
use Rattle.exact.specs.Value.{value}
use Rattle.exact.specs.Binary32.{zero₃₂, one₃₂}
use Rattle.rounding.proofs.Analyser.{Bound, Approximates, constant_of}
use Rattle.rounding.proofs.Inputs.{range, input}
use Rattle.curve.proofs.Positions.{Level}

unfoldable pub unit : Bound
unfolding range
unit = range binary32 zero₃₂ one₃₂

pub level_input : (x : Float) → Level x → Approximates binary32 x (value x) unit
unfolding unit constant_of of_bits
level_input x h = input binary32 x zero₃₂ one₃₂ h.holds tt tt h.from h.to
