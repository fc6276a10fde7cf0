-- `step_down` is what its contract says. Assumes nothing.
use Rattle.rounded_floor.proofs.step_down.Goals as goal

pub returns-then-x-whole : goal.returns-then-x-whole
returns-then-x-whole c = simp c.if-x-whole.true

pub returns : goal.returns
returns c = simp c.if-x-whole.false
