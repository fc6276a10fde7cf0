-- `put_was` writes `was_text`: nothing where the byte is the same. Assumes nothing.
use Rattle.text.proofs.Writing.{◌⨾◌, puts_none}
use borrow.Author.Tests.{eq-eqb, ne_eqb}
use Rattle.dial_start.specs.Start.{was_text}
use Rattle.dial_start.proofs.put_was.Goals as goal

pub returns-then-was-b : goal.returns-then-was-b
unfolding was_text
returns-then-was-b c = simp (ne_eqb _ _ c.if-was-b.true) (c.put.ensures ⨾ c.put_decimal.ensures ⨾ c.put-then-was-b.ensures)

pub returns-else-was-b : goal.returns-else-was-b
unfolding was_text
returns-else-was-b c = simp (eq-eqb _ _ c.if-was-b.false) (puts_none _)
