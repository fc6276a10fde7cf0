-- `turned_lfo` is `turned_lfo`. Assumes nothing.
use Rattle.settings.specs.Settings.{turned_lfo}
use Rattle.settings.proofs.turned_lfo.Goals as goal

pub returns : goal.returns
unfolding turned_lfo
returns c = simp c.turns.ensures
