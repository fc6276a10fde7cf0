-- `oscillator_one` meets its contract. Assumes nothing.
use Rattle.builders.proofs.oscillator_one.Goals as goal

pub returns : goal.returns
returns c = simp (c.of_shape.ensures, c.oscillator_one_from.ensures)
