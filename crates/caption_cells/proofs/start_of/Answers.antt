-- `start_of` is `start_of`. Assumes nothing.
use native.Mathlib.Omega.{arith}
use Rattle.caption_cells.specs.Cells.{start_of}
use Rattle.caption_cells.proofs.start_of.Goals as goal

pub returns : goal.returns
unfolding start_of
returns c = (rw c.samples_before.ensures.0 at c.min.ensures, omega (arith, c.min.ensures))
