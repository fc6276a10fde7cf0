-- `divide` is `divide_of`. Assumes nothing.
use Rattle.envelope.specs.Formula.{divide_of}
use borrow.Author.Rules.{rules}
use Rattle.envelope.proofs.divide.Goals as goal

pub returns-then-width : goal.returns-then-width
unfolding divide_of
returns-then-width c = simp c.if-width.true

pub clamp_unit-requires : goal.clamp_unit-requires
unfolding divide_of
clamp_unit-requires c = search rules

pub returns : goal.returns
unfolding divide_of
returns c = simp (c.if-width.false, c.clamp_unit.ensures)
