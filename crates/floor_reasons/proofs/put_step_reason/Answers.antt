-- `put_step_reason` puts `step_reason`, by the tests of the sign and of the bits. Assumes nothing.
use Rattle.text.proofs.Writing.{puts_as}
use Rattle.floor_reasons.proofs.Reasons.{step_unset, step_set, step_above}
use Rattle.floor_reasons.proofs.put_step_reason.Goals as goal

pub returns-then-some : goal.returns-then-some
returns-then-some c = puts_as (step_set _ _ (rw c.float_of.ensures at c.if-float_of.true) c.if-some.true) c.put.ensures

pub returns-then-float_of : goal.returns-then-float_of
returns-then-float_of c = puts_as (step_unset _ _ (rw c.float_of.ensures at c.if-float_of.true) c.if-some.false) c.put-then-float_of.ensures

pub returns : goal.returns
returns c = puts_as (step_above _ _ (rw c.float_of.ensures at c.if-float_of.false)) c.put-2.ensures
