-- `sample_position` is `part_of`. Assumes nothing.
use Rattle.strip.proofs.sample_position.Goals as goal

pub returns : goal.returns
returns c = simp c.from_u16.ensures
