-- `noise` meets its contract. Assumes nothing.
use Rattle.builders.proofs.noise.Goals as goal

pub returns : goal.returns
returns c = simp (c.of_shape.ensures, c.noise_from.ensures)
