-- `fade_at` is `fade_of` of the LFO's fade byte. Assumes nothing.
use Rattle.code_settings.proofs.fade_at.Goals as goal

pub returns : goal.returns
returns c = simp (c.fade_byte-from.ensures.0, c.fade_from.ensures)
