-- `put_older_gate` writes `older_gate`: nothing where the byte is the same. Assumes nothing.
use Rattle.text.proofs.Writing.{puts_none}
use borrow.Author.Tests.{eq-eqb, ne_eqb}
use Rattle.panel_gates.specs.GateText.{older_gate}
use Rattle.panel_gates.proofs.put_older_gate.Goals as goal

pub returns-then-was-time : goal.returns-then-was-time
unfolding older_gate
returns-then-was-time c = simp (ne_eqb _ _ c.if-was-time.true) (rw c.arpeggiator_gates.ensures at c.put_older_bars.ensures)

pub returns-else-was-time : goal.returns-else-was-time
unfolding older_gate
returns-else-was-time c = simp (eq-eqb _ _ c.if-was-time.false) (puts_none _)
