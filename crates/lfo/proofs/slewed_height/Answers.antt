-- `slewed_height` is `slewed_of`. Assumes nothing.
use Rattle.lfo.proofs.slewed_height.Goals as goal

pub returns : goal.returns
returns c = simp (c.walked.ensures, c.phase.ensures)
