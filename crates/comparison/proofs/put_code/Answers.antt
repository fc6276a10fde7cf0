-- `put_code` puts `generator_text`. Assumes nothing.
use Rattle.comparison.specs.Differences.{largest_text, generator_text}
use Rattle.text.proofs.Writing.{◌⨾◌, puts_as}
use mathlib.Core.Path.{sym, ap, ◌∙◌}
use Rattle.comparison.proofs.put_code.Goals as goal

pub returns-then-same : goal.returns-then-same
unfolding generator_text
returns-then-same c = simp (sym c.same.ensures ∙ c.if-same.true) (rw c.code_number.ensures at c.put_title.ensures ⨾ c.put.ensures)

pub returns-else-same : goal.returns-else-same
unfolding generator_text
returns-else-same c =
    simp (sym c.same.ensures ∙ c.if-same.false)
    (rw c.code_number.ensures at c.put_title.ensures ⨾ (puts_as (ap largest_text c.largest_of.ensures) c.put_largest.ensures ⨾ c.put_code_changes.ensures))
