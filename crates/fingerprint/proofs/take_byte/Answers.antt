use borrow.Author.Rules.{rules}
use Rattle.fingerprint.proofs.Bits.{no_step, step_more, all_steps}
use Rattle.fingerprint.proofs.take_byte.Goals as goal

pub loop-init : goal.loop-init
loop-init c = (search rules, no_step _ _ c.xor-s.ensures)

pub loop-preserved : goal.loop-preserved
loop-preserved c = (search rules, step_more _ _ _ c.loop.invariant.1 c.step-s.ensures)

pub returns : goal.returns
returns c = all_steps _ _ _ c.loop.invariant.0 c.loop-test.false c.loop.invariant.1
