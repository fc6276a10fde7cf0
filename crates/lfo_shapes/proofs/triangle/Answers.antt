-- `triangle` is `triangle_of`. Assumes nothing.
use Rattle.lfo_shapes.specs.Formula.{triangle_of}
use borrow.Author.Rules.{rules}
use Rattle.lfo_shapes.proofs.triangle.Goals as goal

pub wrap-within-requires : goal.wrap-within-requires
unfolding triangle_of
wrap-within-requires c = search rules

pub returns-then-within : goal.returns-then-within
unfolding triangle_of
returns-then-within c = simp (c.wrap-within.ensures, simp c.wrap-within.ensures at c.if-within.true)

pub returns : goal.returns
unfolding triangle_of
returns c = simp (c.wrap-within.ensures, simp c.wrap-within.ensures at c.if-within.false)
