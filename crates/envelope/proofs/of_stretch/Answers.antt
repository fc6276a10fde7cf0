-- `of_stretch` is `of_stretch`. Assumes nothing.
use Rattle.envelope.proofs.of_stretch.Goals as goal

pub returns-then-t-e : goal.returns-then-t-e
returns-then-t-e c = simp c.if-t-e.true

pub returns-then-t-e-2 : goal.returns-then-t-e-2
returns-then-t-e-2 c = simp (c.if-t-e.false, c.if-t-e-2.true)

pub returns-then-t-e-3 : goal.returns-then-t-e-3
returns-then-t-e-3 c = simp (c.if-t-e.false, c.if-t-e-2.false, c.if-t-e-3.true)

pub returns : goal.returns
returns c = simp (c.if-t-e.false, c.if-t-e-2.false, c.if-t-e-3.false)
