-- `noise_height` is `noise_height_of`: the sample's height, and no steps. Assumes nothing.
use borrow.Author.Rules.{rules}
use Rattle.curve.specs.Curve.{drawn_of}
use Rattle.noise.specs.Formula.{noise_height_of}
use Rattle.noise.proofs.noise_height.Goals as goal

pub noise_sample-requires : goal.noise_sample-requires
unfolding noise_height_of drawn_of
noise_sample-requires c = search rules

pub returns : goal.returns
unfolding noise_height_of drawn_of
returns c = simp c.noise_sample.ensures
