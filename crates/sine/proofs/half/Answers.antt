-- `half` is `half_of`. Assumes nothing.
use Rattle.sine.specs.Formula.{half_of}
use Rattle.sine.proofs.half.Goals as goal

pub returns-then-cycle : goal.returns-then-cycle
unfolding half_of
returns-then-cycle c = simp c.if-cycle.true

pub returns : goal.returns
unfolding half_of
returns c = simp c.if-cycle.false
