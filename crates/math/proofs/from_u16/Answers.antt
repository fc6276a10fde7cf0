-- `from_u16` is the number itself. Assumes nothing.
use native.Mathlib.Omega.{arith}
use Rattle.math.proofs.Nan.{number_bits}
use Rattle.math.proofs.Digits.{from_digits}
use Rattle.math.proofs.from_u16.Goals as goal

pub float_from_bits-result : goal.float_from_bits-result
float_from_bits-result c = number_bits _ (omega (arith, c.well_formed.0.1))

pub returns : goal.returns
returns c = from_digits _ c.well_formed.0.1
