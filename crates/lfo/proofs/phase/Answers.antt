-- `phase` is `phase_of`. Assumes nothing.
use Rattle.lfo.proofs.phase.Goals as goal

pub returns : goal.returns
returns c = simp c.position.ensures
