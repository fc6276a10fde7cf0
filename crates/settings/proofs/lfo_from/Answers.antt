-- `lfo_from` is `lfo_of`. Assumes nothing.
use Rattle.settings.specs.Settings.{lfo_of}
use Rattle.settings.proofs.lfo_from.Goals as goal

pub returns : goal.returns
unfolding lfo_of
returns c = simp (c.byte.ensures, c.turns.ensures, c.from-shape.ensures)
