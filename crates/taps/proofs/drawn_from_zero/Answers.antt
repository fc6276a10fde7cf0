-- `drawn_from_zero` is `drawn_of`: of a level that is not below 0 the first test of the clamp changes nothing. Assumes nothing.
use borrow.Author.Rules.{rules}
use Rattle.math.specs.Formulas.{clamp_of}
use Rattle.curve.specs.Curve.{drawn_of}
use Rattle.taps.proofs.drawn_from_zero.Goals as goal

pub lowered-requires : goal.lowered-requires
unfolding drawn_of clamp_of
lowered-requires c = search rules

pub returns : goal.returns
unfolding drawn_of clamp_of
returns c = simp (c.requires, c.lowered.ensures)
