-- `is_level` is `is_level`: a test for each end. Assumes nothing.
use Rattle.level.specs.Level.{is_level}
use Rattle.level.proofs.is_level.Goals as goal

pub returns-then-x : goal.returns-then-x
unfolding is_level
returns-then-x c = simp c.if-x.true

pub returns : goal.returns
unfolding is_level
returns c = simp c.if-x.false
