-- `page` puts `chart_text`: its parts, one after the other. Assumes nothing.
use Rattle.text.proofs.Writing.{◌⨾◌}
use Rattle.chart_page.specs.ChartPage.{chart_text}
use Rattle.chart_page.proofs.page.Goals as goal

pub returns : goal.returns
unfolding chart_text
returns c =
    c.put_head.ensures ⨾
    c.put_cells.ensures ⨾
    c.put.ensures
