-- `moved` is `moved_of`. Assumes nothing.
use Rattle.walk.specs.Formula.{moved_of}
use borrow.Author.Rules.{rules}
use Rattle.walk.proofs.moved.Goals as goal

pub shape_at-requires : goal.shape_at-requires
unfolding moved_of
shape_at-requires c = search rules

pub clamp-requires : goal.clamp-requires
unfolding moved_of
clamp-requires c = search rules

pub returns : goal.returns
unfolding moved_of
returns c = simp (c.clamp.ensures, c.shape_at.ensures)
