-- `bent` is `bent_of`. Assumes nothing.
use Rattle.envelope.specs.Formula.{bent_of, bent_unit, denominator_of}
use borrow.Author.Rules.{rules}
use Rattle.envelope.proofs.bent.Goals as goal

pub clamp_unit-u-requires : goal.clamp_unit-u-requires
unfolding bent_of bent_unit denominator_of
clamp_unit-u-requires c = search rules

pub returns-then-denominator : goal.returns-then-denominator
unfolding bent_of bent_unit denominator_of
returns-then-denominator c = simp (c.clamp_unit-u.ensures, simp c.clamp_unit-u.ensures at c.if-denominator.true)

pub returns : goal.returns
unfolding bent_of bent_unit denominator_of
returns c = simp (c.clamp_unit-u.ensures, simp c.clamp_unit-u.ensures at c.if-denominator.false)
