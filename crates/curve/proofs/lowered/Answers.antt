-- `lowered` replaces a number above 1 only. Assumes nothing.
use Rattle.curve.proofs.lowered.Goals as goal

pub returns-then-x : goal.returns-then-x
returns-then-x c = simp c.if-x.true

pub returns : goal.returns
returns c = simp c.if-x.false
