-- `drawn` is `drawn_of`. Assumes nothing.
use Rattle.curve.specs.Curve.{drawn_of}
use borrow.Author.Rules.{rules}
use Rattle.curve.proofs.drawn.Goals as goal

pub clamp_unit-requires : goal.clamp_unit-requires
unfolding drawn_of
clamp_unit-requires c = search rules

pub returns : goal.returns
unfolding drawn_of
returns c = simp c.clamp_unit.ensures
