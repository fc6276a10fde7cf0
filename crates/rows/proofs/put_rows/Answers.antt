-- `put_rows` puts `rows_text`: nothing where there are too many samples. Assumes nothing.
use borrow.Author.Tests.{le-leb, lt-leb}
use Rattle.text.proofs.Writing.{puts_none}
use Rattle.rows.specs.Rows.{rows_text}
use borrow.Author.Rules.{rules}
use Rattle.rows.proofs.put_rows.Goals as goal

pub put_samples-requires : goal.put_samples-requires
unfolding rows_text
put_samples-requires c = search rules

pub returns-then-heights-le-MAX_ROWS : goal.returns-then-heights-le-MAX_ROWS
unfolding rows_text
returns-then-heights-le-MAX_ROWS c = simp (le-leb _ _ c.if-heights-le-MAX_ROWS.true) c.put_samples.ensures

pub returns-else-heights-le-MAX_ROWS : goal.returns-else-heights-le-MAX_ROWS
unfolding rows_text
returns-else-heights-le-MAX_ROWS c = simp (lt-leb _ _ c.if-heights-le-MAX_ROWS.false) (puts_none _)
