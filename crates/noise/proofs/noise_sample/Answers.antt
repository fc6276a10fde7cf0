-- `noise_sample` is the height of `noise_height_of`. Assumes nothing.
use borrow.Author.Rules.{rules}
use Rattle.curve.specs.Curve.{drawn_of}
use Rattle.noise.specs.Formula.{noise_height_of}
use Rattle.noise.proofs.noise_sample.Goals as goal

pub position-requires : goal.position-requires
unfolding noise_height_of drawn_of
position-requires c = search rules

pub noise_level-requires : goal.noise_level-requires
unfolding noise_height_of drawn_of
noise_level-requires c = search rules

pub clamp_unit-requires : goal.clamp_unit-requires
unfolding noise_height_of drawn_of
clamp_unit-requires c = search rules

pub returns : goal.returns
unfolding noise_height_of drawn_of
returns c = simp (c.clamp_unit.ensures, c.noise_level.ensures, c.position.ensures)
