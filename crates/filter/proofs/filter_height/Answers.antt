-- `filter_height` is `filter_height_of`: the sample's height, and no steps. Assumes nothing.
use borrow.Author.Rules.{rules}
use Rattle.curve.specs.Curve.{drawn_of}
use Rattle.filter.specs.Formula.{filter_height_of}
use Rattle.filter.proofs.filter_height.Goals as goal

pub filter_sample-requires : goal.filter_sample-requires
unfolding filter_height_of drawn_of
filter_sample-requires c = search rules

pub returns : goal.returns
unfolding filter_height_of drawn_of
returns c = simp c.filter_sample.ensures
