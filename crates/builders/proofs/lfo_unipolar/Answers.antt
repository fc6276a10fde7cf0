-- `lfo_unipolar` meets its contract. Assumes nothing.
use Rattle.builders.proofs.lfo_unipolar.Goals as goal

pub returns : goal.returns
returns c = simp (c.of_shape.ensures, c.lfo_from.ensures)
