-- `filter_sample` is the height of `filter_height_of`. Assumes nothing.
use borrow.Author.Rules.{rules}
use Rattle.curve.specs.Curve.{drawn_of}
use Rattle.filter.specs.Formula.{filter_height_of}
use Rattle.filter.proofs.filter_sample.Goals as goal

pub position-requires : goal.position-requires
unfolding filter_height_of drawn_of
position-requires c = search rules

pub level-requires : goal.level-requires
unfolding filter_height_of drawn_of
level-requires c = search rules

pub clamp_unit-requires : goal.clamp_unit-requires
unfolding filter_height_of drawn_of
clamp_unit-requires c = search rules

pub returns : goal.returns
unfolding filter_height_of drawn_of
returns c = simp (c.clamp_unit.ensures, c.level.ensures, c.position.ensures)
