-- `put_cell` puts `cell_text`: its parts, one after the other. Assumes nothing.
use Rattle.text.proofs.Writing.{◌⨾◌}
use Rattle.chart_cells.specs.Cells.{cell_text}
use Rattle.chart_cells.proofs.put_cell.Goals as goal

pub returns : goal.returns
unfolding cell_text
returns c =
    c.put_place.ensures ⨾
    c.put.ensures ⨾
    c.put_decimal.ensures ⨾
    c.put-2.ensures ⨾
    c.put_numbers.ensures ⨾
    c.put-3.ensures
