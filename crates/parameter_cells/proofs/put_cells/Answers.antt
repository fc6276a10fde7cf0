-- `put_cells` puts `cells_text`: its parts, one after the other. Assumes nothing.
use Rattle.text.proofs.Writing.{◌⨾◌}
use Rattle.parameter_cells.specs.Cells.{cells_text}
use Rattle.parameter_cells.proofs.put_cells.Goals as goal

pub returns : goal.returns
unfolding cells_text
returns c =
    c.put.ensures ⨾
    c.put_decimal.ensures ⨾
    c.put-2.ensures ⨾
    c.put_parameter_name.ensures ⨾
    c.put-3.ensures ⨾
    c.put_decimal-2.ensures ⨾
    c.put-4.ensures
