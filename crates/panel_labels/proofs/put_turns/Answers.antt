-- `put_turns` writes `turns_text`. Assumes nothing.
use borrow.Author.Tests.{ne_eqb}
use Rattle.text.proofs.Writing.{◌⨾◌}
use Rattle.panel_labels.specs.Labels.{turns_text}
use Rattle.panel_labels.proofs.put_turns.Goals as goal

pub returns-then-n-eq1 : goal.returns-then-n-eq1
unfolding turns_text
returns-then-n-eq1 c = simp c.if-n-eq1.true c.put.ensures

pub returns-else-n-eq1 : goal.returns-else-n-eq1
unfolding turns_text
returns-else-n-eq1 c = simp (ne_eqb _ _ c.if-n-eq1.false) (c.put_decimal.ensures ⨾
    c.put-else-n-eq1.ensures)
