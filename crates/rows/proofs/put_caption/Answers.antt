-- `put_caption` puts `caption_text`: nothing where there is no caption. Assumes nothing.
use borrow.Author.Tests.{eq-eqb, ne_eqb}
use Rattle.text.proofs.Writing.{◌⨾◌, puts_none}
use Rattle.rows.specs.Rows.{caption_text}
use Rattle.rows.proofs.put_caption.Goals as goal

pub returns-then-caption-eq-NO_CAPTION : goal.returns-then-caption-eq-NO_CAPTION
unfolding caption_text
returns-then-caption-eq-NO_CAPTION c = simp (eq-eqb _ _ c.if-caption-eq-NO_CAPTION.true) (puts_none _)

pub returns : goal.returns
unfolding caption_text
returns c = simp (ne_eqb _ _ c.if-caption-eq-NO_CAPTION.false) (c.put.ensures ⨾ c.put_segment.ensures)
