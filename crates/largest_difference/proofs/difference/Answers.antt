-- `difference` is `difference_at`. Assumes nothing.
use Rattle.largest_difference.specs.Largest.{difference_at}
use Rattle.largest_difference.proofs.difference.Goals as goal

pub returns : goal.returns
unfolding difference_at
returns c = c.abs.ensures
