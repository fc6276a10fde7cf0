-- `put_row` puts `row_text`: its parts, one after the other. Assumes nothing.
use Rattle.text.proofs.Writing.{◌⨾◌}
use Rattle.rows.specs.Rows.{row_text}
use Rattle.rows.proofs.put_row.Goals as goal

pub returns : goal.returns
unfolding row_text
returns c =
    c.put_decimals.ensures ⨾
    (rw c.word_of.ensures at c.put_hex.ensures) ⨾
    c.put.ensures ⨾
    (rw c.word_of-2.ensures at c.put_hex-2.ensures) ⨾
    c.put_caption.ensures ⨾
    c.put-2.ensures
