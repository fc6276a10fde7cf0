-- `sign` is `sign_of`. Assumes nothing.
use Rattle.sine.specs.Formula.{sign_of}
use Rattle.sine.proofs.sign.Goals as goal

pub returns-then-cycle : goal.returns-then-cycle
unfolding sign_of
returns-then-cycle c = simp c.if-cycle.true

pub returns : goal.returns
unfolding sign_of
returns c = simp c.if-cycle.false
