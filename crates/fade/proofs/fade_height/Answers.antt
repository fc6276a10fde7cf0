-- `fade_height` is `fade_height_of`. Assumes nothing.
use Rattle.fade.specs.Formula.{fade_height_of}
use borrow.Author.Rules.{rules}
use Rattle.fade.proofs.fade_height.Goals as goal

pub position-requires : goal.position-requires
unfolding fade_height_of
position-requires c = search rules

pub fade_level-requires : goal.fade_level-requires
unfolding fade_height_of
fade_level-requires c = search rules

pub drawn-requires : goal.drawn-requires
unfolding fade_height_of
drawn-requires c = search rules

pub returns : goal.returns
unfolding fade_height_of
returns c = simp (c.drawn.ensures, c.fade_level.ensures, c.position.ensures)
