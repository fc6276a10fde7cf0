-- `unsigned_zero` is `unsigned_zero`. Assumes nothing.
use Rattle.math.proofs.unsigned_zero.Goals as goal

pub returns-then-x : goal.returns-then-x
returns-then-x c = simp c.if-x.true

pub returns : goal.returns
returns c = simp c.if-x.false
