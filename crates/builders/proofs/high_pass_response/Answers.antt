-- `high_pass_response` meets its contract. Assumes nothing.
use Rattle.builders.proofs.high_pass_response.Goals as goal

pub returns : goal.returns
returns c = simp (c.of_shape.ensures, c.high_pass.ensures)
