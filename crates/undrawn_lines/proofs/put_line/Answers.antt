-- `put_line` puts `line_text`: its parts, one after the other. Assumes nothing.
use Rattle.text.proofs.Writing.{◌⨾◌}
use Rattle.undrawn_lines.specs.Lines.{line_text}
use Rattle.undrawn_lines.proofs.put_line.Goals as goal

pub returns : goal.returns
unfolding line_text
returns c =
    c.put_named.ensures ⨾
    c.put_decimal.ensures ⨾
    c.put.ensures ⨾
    c.put_decimal-2.ensures ⨾
    c.put-2.ensures
