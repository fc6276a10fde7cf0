-- `unslewed_height` is `unslewed_of`. Assumes nothing.
use Rattle.lfo.proofs.unslewed_height.Goals as goal

pub returns : goal.returns
returns c = simp (c.drawn.ensures, c.shape_at.ensures, c.phase.ensures)
