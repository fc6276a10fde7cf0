use Rattle.text.proofs.Writing.{no_text, text_more, all_texts}
use Rattle.chart_page.proofs.put_cells.Goals as goal

pub loop-c-init : goal.loop-c-init
loop-c-init c = no_text _

pub loop-c-preserved : goal.loop-c-preserved
loop-c-preserved c = text_more _ _ c.loop-c.invariant c.put_cell.ensures

pub returns : goal.returns
returns c = all_texts _ _ _ c.loop-c.auto.c-end c.loop-c-test.false c.loop-c.invariant
