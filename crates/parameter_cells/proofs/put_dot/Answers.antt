-- `put_dot` puts `dot_text`: nothing where the sheet does not draw the byte. Assumes nothing.
use mathlib.Core.Path.{sym, ◌∙◌}
use Rattle.text.proofs.Writing.{puts_none}
use Rattle.parameter_cells.specs.Cells.{dot_text}
use Rattle.parameter_cells.proofs.put_dot.Goals as goal

pub returns-then-is_drawn : goal.returns-then-is_drawn
unfolding dot_text
returns-then-is_drawn c = simp (sym c.is_drawn.ensures ∙ c.if-is_drawn.true) c.put.ensures

pub returns-else-is_drawn : goal.returns-else-is_drawn
unfolding dot_text
returns-else-is_drawn c = simp (sym c.is_drawn.ensures ∙ c.if-is_drawn.false) (puts_none _)
