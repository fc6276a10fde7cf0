-- `put_number` puts `number_line`: its parts, one after the other. Assumes nothing.
use Rattle.text.proofs.Writing.{◌⨾◌}
use Rattle.curve_lines.specs.Lines.{number_line}
use Rattle.curve_lines.proofs.put_number.Goals as goal

pub returns : goal.returns
unfolding number_line
returns c =
    c.put.ensures ⨾
    c.put_decimal.ensures ⨾
    c.put-2.ensures
