-- `envelope` meets its contract. Assumes nothing.
use Rattle.builders.proofs.envelope.Goals as goal

pub returns : goal.returns
returns c = simp (c.of_shape.ensures, c.envelope_from.ensures)
