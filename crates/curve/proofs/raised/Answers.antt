-- `raised` replaces a number below 0 only. Assumes nothing.
use Rattle.curve.proofs.raised.Goals as goal

pub returns-then-x : goal.returns-then-x
returns-then-x c = simp c.if-x.true

pub returns : goal.returns
returns c = simp c.if-x.false
