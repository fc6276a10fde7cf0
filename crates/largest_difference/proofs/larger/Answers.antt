-- `larger` is `larger_of`. Assumes nothing.
use Rattle.largest_difference.specs.Largest.{larger_of}
use Rattle.largest_difference.proofs.larger.Goals as goal

pub returns-then-found-size : goal.returns-then-found-size
unfolding larger_of
returns-then-found-size c = simp c.if-found-size.true

pub returns : goal.returns
unfolding larger_of
returns c = simp c.if-found-size.false
