-- `segment_at` is `last_segment` of an envelope's marks. Assumes nothing.
use Rattle.captions.proofs.Segments.{by_ends}
use Rattle.captions.proofs.segment_at.Goals as goal

pub returns-then-e-p : goal.returns-then-e-p
returns-then-e-p c = simp (by_ends, c.if-e-p.true)

pub returns-then-e-p-2 : goal.returns-then-e-p-2
returns-then-e-p-2 c = simp (by_ends, c.if-e-p.false, c.if-e-p-2.true)

pub returns-then-e-p-3 : goal.returns-then-e-p-3
returns-then-e-p-3 c = simp (by_ends, c.if-e-p.false, c.if-e-p-2.false, c.if-e-p-3.true)

pub returns : goal.returns
returns c = simp (by_ends, c.if-e-p.false, c.if-e-p-2.false, c.if-e-p-3.false)
