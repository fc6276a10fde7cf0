-- `within` is `within_of`. Assumes nothing.
use lib.Ieee.{of_bits}
use borrow.Author.Rules.{rules}
use Rattle.fixed_point.specs.Between.{within_of}
use Rattle.fixed_point.proofs.within.Goals as goal

pub between-requires : goal.between-requires
unfolding within_of of_bits
between-requires c = search rules

pub returns-then-x-2 : goal.returns-then-x-2
unfolding within_of of_bits
returns-then-x-2 c = simp (c.if-x.true, c.if-x-2.true, c.between.ensures)

pub returns-else-x-2 : goal.returns-else-x-2
unfolding within_of of_bits
returns-else-x-2 c = simp (c.if-x.true, c.if-x-2.false)

pub returns-else-x : goal.returns-else-x
unfolding within_of of_bits
returns-else-x c = simp c.if-x.false
