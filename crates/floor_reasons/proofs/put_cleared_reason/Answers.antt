-- `put_cleared_reason` puts `cleared_reason`, of one bit or of more. Assumes nothing.
use borrow.Author.Tests.{eq-eqb, ne_eqb}
use Rattle.text.proofs.Writing.{◌⨾◌, puts_as}
use Rattle.floor_reasons.proofs.Reasons.{one_cleared, some_cleared}
use Rattle.floor_reasons.proofs.put_cleared_reason.Goals as goal

pub returns-then-k-eq1 : goal.returns-then-k-eq1
returns-then-k-eq1 c = puts_as (one_cleared _ (eq-eqb _ _ c.if-k-eq1.true)) c.put.ensures

pub returns : goal.returns
returns c = puts_as (some_cleared _ (ne_eqb _ _ c.if-k-eq1.false)) (c.put-2.ensures ⨾ c.put_decimal.ensures ⨾ c.put-3.ensures)
