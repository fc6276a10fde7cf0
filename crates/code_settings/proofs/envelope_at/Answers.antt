-- `envelope_at` is `envelope_at`: eight bytes, each below the block's end. Assumes nothing.
use Rattle.code_settings.specs.Settings.{envelope_at}
use Rattle.code_settings.proofs.envelope_at.Goals as goal

pub returns : goal.returns
unfolding envelope_at
returns c = simp (c.envelope_first-from.ensures.0, c.envelope_from.ensures)
