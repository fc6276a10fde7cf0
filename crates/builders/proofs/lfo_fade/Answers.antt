-- `lfo_fade` meets its contract. Assumes nothing.
use Rattle.builders.proofs.lfo_fade.Goals as goal

pub returns : goal.returns
returns c = simp (c.of_shape.ensures, c.fade_from.ensures)
