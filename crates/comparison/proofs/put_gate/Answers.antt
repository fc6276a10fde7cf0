-- `put_gate` puts `gate_text`. Assumes nothing.
use Rattle.comparison.specs.Differences.{gate_text}
use Rattle.text.proofs.Writing.{◌⨾◌}
use mathlib.Core.Path.{sym, ◌∙◌}
use Rattle.comparison.proofs.put_gate.Goals as goal

pub returns-then-same_bytes : goal.returns-then-same_bytes
unfolding gate_text
returns-then-same_bytes c = simp (sym c.same_bytes.ensures ∙ c.if-same_bytes.true) (c.put_title.ensures ⨾ c.put.ensures)

pub returns-else-same_bytes : goal.returns-else-same_bytes
unfolding gate_text
returns-else-same_bytes c = simp (sym c.same_bytes.ensures ∙ c.if-same_bytes.false) (c.put_title.ensures ⨾ (c.put-else-same_bytes.ensures ⨾ c.put_changes.ensures))
