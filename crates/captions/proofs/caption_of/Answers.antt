-- `caption_of` is `caption_of` an envelope's marks: the segment at the sample's position.
-- Assumes nothing.
use Rattle.captions.proofs.Segments.{by_position}
use Rattle.captions.proofs.caption_of.Goals as goal

pub returns : goal.returns
returns c = by_position _ _ _ _ c.sample_position.ensures c.segment_at.ensures
