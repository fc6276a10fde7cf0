-- `envelope_sample` is the height of `envelope_height_of`. Assumes nothing.
use borrow.Author.Rules.{rules}
use Rattle.curve.specs.Curve.{drawn_of}
use Rattle.envelope.specs.Formula.{envelope_height_of}
use Rattle.envelope.proofs.envelope_sample.Goals as goal

pub position-requires : goal.position-requires
unfolding envelope_height_of drawn_of
position-requires c = search rules

pub level_by_stretch-requires : goal.level_by_stretch-requires
unfolding envelope_height_of drawn_of
level_by_stretch-requires c = search rules

pub clamp_unit-requires : goal.clamp_unit-requires
unfolding envelope_height_of drawn_of
clamp_unit-requires c = search rules

pub returns : goal.returns
unfolding envelope_height_of drawn_of
returns c = simp (c.clamp_unit.ensures, c.level_by_stretch.ensures, c.position.ensures)
