-- `filter_response` meets its contract. Assumes nothing.
use Rattle.builders.proofs.filter_response.Goals as goal

pub returns : goal.returns
returns c = simp (c.of_shape.ensures, c.low_pass_from.ensures)
