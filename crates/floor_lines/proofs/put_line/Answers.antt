-- `put_line` puts `line_of`: its parts, one after the other. Assumes nothing.
use Rattle.text.proofs.Writing.{◌⨾◌}
use Rattle.floor_lines.specs.Lines.{line_of}
use Rattle.floor_lines.proofs.put_line.Goals as goal

pub returns : goal.returns
unfolding line_of
returns c =
    c.put.ensures ⨾
    c.put_pattern.ensures ⨾
    c.put-2.ensures
