-- `lfo_at` is `lfo_at`: three bytes, each below the block's end. Assumes nothing.
use Rattle.code_settings.specs.Settings.{lfo_at}
use Rattle.code_settings.proofs.lfo_at.Goals as goal

pub returns : goal.returns
unfolding lfo_at
returns c = simp (c.lfo_first-from.ensures.0, c.lfo_from.ensures)
