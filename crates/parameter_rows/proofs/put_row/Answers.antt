-- `put_row` puts `row_text`: its parts, one after the other. Assumes nothing.
use Rattle.text.proofs.Writing.{◌⨾◌}
use Rattle.parameter_rows.specs.Rows.{row_text}
use Rattle.parameter_rows.proofs.put_row.Goals as goal

pub returns : goal.returns
unfolding row_text
returns c =
    c.put_place.ensures ⨾
    c.put_rule.ensures ⨾
    c.put_dot.ensures ⨾
    c.put_cells.ensures
