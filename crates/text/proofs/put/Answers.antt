use Rattle.text.proofs.Writing.{puts_none, one_more}
use Rattle.text.proofs.put.Goals as goal

pub loop-b-init : goal.loop-b-init
loop-b-init c = puts_none _

pub loop-b-preserved : goal.loop-b-preserved
loop-b-preserved c = one_more _ _ c.loop-b-test.true c.loop-b.invariant c.put_byte.ensures
