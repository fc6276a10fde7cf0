-- `put_small_reason` puts `small_reason`, by the test of the sign. Assumes nothing.
use Rattle.text.proofs.Writing.{puts_as}
use Rattle.floor_reasons.proofs.Reasons.{small_minus, small_nothing}
use Rattle.floor_reasons.proofs.put_small_reason.Goals as goal

pub returns-then-float_of : goal.returns-then-float_of
returns-then-float_of c = puts_as (small_minus _ (rw c.float_of.ensures at c.if-float_of.true)) c.put.ensures

pub returns : goal.returns
returns c = puts_as (small_nothing _ (rw c.float_of.ensures at c.if-float_of.false)) c.put-2.ensures
