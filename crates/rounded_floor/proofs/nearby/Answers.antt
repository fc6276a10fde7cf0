-- `nearby` is what its contract says. Assumes nothing.
use Rattle.rounded_floor.proofs.nearby.Goals as goal

pub returns-then-x : goal.returns-then-x
returns-then-x c = simp c.if-x.true

pub returns : goal.returns
returns c = simp c.if-x.false
