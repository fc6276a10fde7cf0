use mathlib.Core.Path.{refl, ◌∙◌}
use native.Mathlib.Omega.{arith}
use Rattle.marks.specs.Marks.{cycles_of}
use Rattle.marks.proofs.Stored.{cycles_end, cycles_next, cycles_done}
use Rattle.marks.proofs.cycles.Goals as goal

pub loop-count-init : goal.loop-count-init
unfolding cycles_of
loop-count-init c = refl

pub returns-then-cycle-turns : goal.returns-then-cycle-turns
returns-then-cycle-turns c = cycles_end _ _ _ c.loop-count-test.true c.if-cycle-turns.true ∙ c.loop-count.invariant

pub loop-count-preserved : goal.loop-count-preserved
loop-count-preserved c = cycles_next _ _ _ c.loop-count-test.true c.if-cycle-turns.false c.push-ends.ensures ∙ c.loop-count.invariant

-- After the last cycle none is left.
pub returns-else-cycle-turns : goal.returns-else-cycle-turns
returns-else-cycle-turns c =
    cycles_done _ _ c.loop-count.count (omega arith) ∙ (cycles_next _ _ _ c.loop-count-test.true c.if-cycle-turns.false c.push-ends.ensures ∙ c.loop-count.invariant)
