-- `put_plain` writes `plain_dial` of the two bytes. Assumes nothing.
use Rattle.text.proofs.Writing.{◌⨾◌}
use Rattle.dial_lines.specs.Lines.{plain_dial}
use Rattle.dial_lines.proofs.put_plain.Goals as goal

pub returns : goal.returns
unfolding plain_dial
returns c =
    c.start_line.ensures.text ⨾
    c.end.ensures
