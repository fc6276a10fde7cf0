-- `gates` is `gates_answer`: a return for the refusal and one for the gates of the byte. The rest follows from the equation. Assumes nothing.
use borrow.Author.Tests.{eq-eqb, ne_eqb}
use Rattle.gates.specs.Gates.{gates_of}
use Rattle.block_gates.specs.Answers.{of_byte}
use Rattle.block_gates.proofs.Refused.{answered}
use Rattle.block_gates.proofs.gates.Goals as goal

pub returns-then-block-ne-BLOCK : goal.returns-then-block-ne-BLOCK
unfolding of_byte
returns-then-block-ne-BLOCK c = answered gates_of (simp (ne_eqb _ _ c.if-block-ne-BLOCK.true))

pub returns : goal.returns
unfolding of_byte
returns c = answered gates_of (simp (eq-eqb _ _ c.if-block-ne-BLOCK.false, c.arpeggiator_gates.ensures))
