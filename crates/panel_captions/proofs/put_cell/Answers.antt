-- `put_cell` writes `cell_between`: nothing where the edges are one. Assumes nothing.
use borrow.Author.Tests.{lt-ltb, le-ltb}
use Rattle.text.proofs.Writing.{◌⨾◌, puts_none}
use Rattle.panel_captions.specs.Captions.{cell_between}
use Rattle.panel_captions.proofs.put_cell.Goals as goal

pub returns-then-left-end : goal.returns-then-left-end
unfolding cell_between
returns-then-left-end c = simp (lt-ltb _ _ c.if-left-end.true) (c.put_outline.ensures ⨾ c.put_label.ensures)

pub returns-else-left-end : goal.returns-else-left-end
unfolding cell_between
returns-else-left-end c = simp (le-ltb _ _ c.if-left-end.false) (puts_none _)
