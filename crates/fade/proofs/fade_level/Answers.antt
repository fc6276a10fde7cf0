-- `fade_level` is `fade_level_of`. Assumes nothing.
use Rattle.fade.specs.Formula.{fade_level_of}
use Rattle.fade.proofs.fade_level.Goals as goal

pub returns-then-t-end : goal.returns-then-t-end
unfolding fade_level_of
returns-then-t-end c = simp c.if-t-end.true

pub returns : goal.returns
unfolding fade_level_of
returns c = simp c.if-t-end.false
