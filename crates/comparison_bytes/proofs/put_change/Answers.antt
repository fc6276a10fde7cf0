-- `put_change` puts `change_text`: nothing where the bytes are the same. Assumes nothing.
use borrow.Author.Tests.{eq-eqb, ne_eqb}
use Rattle.text.proofs.Writing.{◌⨾◌, puts_none}
use Rattle.comparison_bytes.specs.Changes.{change_text}
use Rattle.comparison_bytes.proofs.put_change.Goals as goal

pub returns-then-a-b : goal.returns-then-a-b
unfolding change_text
returns-then-a-b c = simp (eq-eqb _ _ c.if-a-b.true) (puts_none _)

pub returns : goal.returns
unfolding change_text
returns c = simp (ne_eqb _ _ c.if-a-b.false)
    (c.put.ensures ⨾
    c.put_byte_name.ensures ⨾
    c.put-2.ensures ⨾
    c.put_decimal.ensures ⨾
    c.put-3.ensures ⨾
    c.put_decimal-2.ensures ⨾
    c.put-4.ensures)
