-- `quarter` is `quarter_of`. Assumes nothing.
use Rattle.sine.specs.Formula.{quarter_of}
use Rattle.sine.proofs.quarter.Goals as goal

pub returns-then-half : goal.returns-then-half
unfolding quarter_of
returns-then-half c = simp c.if-half.true

pub returns : goal.returns
unfolding quarter_of
returns c = simp c.if-half.false
