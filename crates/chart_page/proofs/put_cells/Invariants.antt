-- `put_cells` puts `cells_text`. The loop's invariant: the cells of the first bytes are put. Assumes nothing.
use Rattle.text.specs.Text.{Puts}
use Rattle.chart_page.specs.ChartPage.{cells_text}
use Rattle.chart_page.proofs.put_cells.Given as goal

abbrev pub invariant-loop-c : goal.invariant-loop-c
invariant-loop-c l = Puts l.initial.out (cells_text l.c) l.out
