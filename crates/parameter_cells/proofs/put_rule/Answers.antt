-- `put_rule` puts `rule_text`: nothing where the parameter begins no group. Assumes nothing.
use mathlib.Core.Path.{sym, ◌∙◌}
use Rattle.text.proofs.Writing.{puts_none}
use Rattle.drawn_bytes.proofs.Drawn.{among}
use Rattle.parameter_cells.specs.Cells.{groups, rule_text}
use Rattle.parameter_cells.proofs.put_rule.Goals as goal

pub returns-then-contains : goal.returns-then-contains
unfolding rule_text
returns-then-contains c = simp (sym (among groups c.args.n) ∙ sym c.contains.ensures.value ∙ c.if-contains.true) c.put.ensures

pub returns-else-contains : goal.returns-else-contains
unfolding rule_text
returns-else-contains c = simp (sym (among groups c.args.n) ∙ sym c.contains.ensures.value ∙ c.if-contains.false) (puts_none _)
