-- `start` is the walk with no full step behind it, whatever the limit. Assumes nothing.
use lib.Ieee.{of_bits, neg}
use Rattle.walk.proofs.Onward.{started}
use borrow.Author.Rules.{rules}
use Rattle.walk.proofs.start.Goals as goal

pub shape_at-requires : goal.shape_at-requires
unfolding neg of_bits
shape_at-requires c = search rules

pub returns : goal.returns
unfolding neg of_bits
returns c = λ limit. started _ limit c.shape_at.ensures
