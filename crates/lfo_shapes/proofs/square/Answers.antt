-- `square` is `square_of`. Assumes nothing.
use Rattle.lfo_shapes.specs.Formula.{square_of}
use borrow.Author.Rules.{rules}
use Rattle.lfo_shapes.proofs.square.Goals as goal

pub wrap-requires : goal.wrap-requires
unfolding square_of
wrap-requires c = search rules

pub returns-then-wrap : goal.returns-then-wrap
unfolding square_of
returns-then-wrap c = simp (simp c.wrap.ensures at c.if-wrap.true)

pub returns : goal.returns
unfolding square_of
returns c = simp (simp c.wrap.ensures at c.if-wrap.false)
