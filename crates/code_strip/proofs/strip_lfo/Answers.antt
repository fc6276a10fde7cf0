-- `strip_lfo` fills with the heights of an LFO's shape. Assumes nothing.
use mathlib.Core.Path.{sym}
use Rattle.code_strip.proofs.strip_lfo.Goals as goal

pub returns : goal.returns
returns c = simp (sym c.lfo_at.ensures) c.fill_lfo.ensures
