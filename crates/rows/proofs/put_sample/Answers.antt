-- `put_sample` puts `sample_text`. Assumes nothing.
use Rattle.strip.specs.Strip.{sample_position}
use Rattle.rows.specs.Rows.{sample_text}
use Rattle.rows.proofs.put_sample.Goals as goal

pub returns : goal.returns
unfolding sample_text sample_position
returns c = rw (c.sample_position.ensures, c.caption_at-caption.ensures) at c.put_row.ensures
