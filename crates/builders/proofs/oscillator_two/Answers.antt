-- `oscillator_two` meets its contract. Assumes nothing.
use Rattle.builders.proofs.oscillator_two.Goals as goal

pub returns : goal.returns
returns c = simp (c.of_shape.ensures, c.oscillator_two_from.ensures)
