-- `unslewed_sample` is the shape at the phase, clamped. Assumes nothing.
use Rattle.lfo.proofs.unslewed_sample.Goals as goal

pub returns : goal.returns
returns c = simp (c.clamp_unit.ensures, c.shape_at.ensures)
