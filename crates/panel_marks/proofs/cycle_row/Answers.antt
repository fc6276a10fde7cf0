-- `cycle_row` is `cycle_row`: the fourth row, or the third and the fourth in turn. Assumes nothing.
use borrow.Author.Tests.{le-leb, lt-leb}
use borrow.Author.Rules.{rules}
use Rattle.panel_marks.specs.Marks.{cycle_row}
use Rattle.panel_marks.proofs.cycle_row.Goals as goal

pub returns-then-count-le6 : goal.returns-then-count-le6
unfolding cycle_row
returns-then-count-le6 c = (simp (le-leb _ _ c.if-count-le6.true), search rules)

pub overflow_add-result : goal.overflow_add-result
unfolding cycle_row
overflow_add-result c = search rules

pub returns : goal.returns
unfolding cycle_row
returns c = (simp (lt-leb _ _ c.if-count-le6.false), search rules)
