-- `arpeggiator_gates` is `gates_of`. Assumes nothing.
use borrow.Author.Tests.{eq-eqb, ne_eqb}
use Rattle.gates.specs.Gates.{gates_of}
use Rattle.gates.proofs.arpeggiator_gates.Goals as goal

pub returns-then-time-eq0 : goal.returns-then-time-eq0
unfolding gates_of
returns-then-time-eq0 c = simp (eq-eqb _ _ c.if-time-eq0.true)

pub returns : goal.returns
unfolding gates_of
returns c = simp (ne_eqb _ _ c.if-time-eq0.false, c.gate_at-4.ensures, c.gate_at-3.ensures, c.gate_at-2.ensures, c.gate_at.ensures)
