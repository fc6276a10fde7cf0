use Rattle.text.proofs.Writing.{left_all, left_none}
use Rattle.comparison_bytes.proofs.ByteLines.{change_put, no_change}
use Rattle.comparison_bytes.proofs.put_changes.Goals as goal

pub loop-n-init : goal.loop-n-init
loop-n-init c = left_all

pub loop-n-preserved : goal.loop-n-preserved
loop-n-preserved c = change_put _ _ _ _ c.loop-n-test.true _ _ c.byte_at.ensures c.byte_at-in-loop-n.ensures c.loop-n.invariant c.put_change.ensures

pub returns : goal.returns
returns c = left_none (no_change _ _ _ _ c.loop-n-test.false c.loop-n.invariant)
