-- `code_read` is `code_of`: a number from 14 on is above. Assumes nothing.
use native.Mathlib.Omega.{arith}
use Rattle.codes.proofs.Numbers.{code_above}
use Rattle.codes.proofs.code_read.Goals as goal

pub returns-then-number-ge-ABOVE : goal.returns-then-number-ge-ABOVE
returns-then-number-ge-ABOVE c = rw (code_above c.args.number (omega arith))
