-- `put_head` puts `head_of`: its parts, one after the other. Assumes nothing.
use Rattle.text.proofs.Writing.{◌⨾◌}
use Rattle.floor_lines.specs.Lines.{head_of}
use Rattle.floor_lines.proofs.put_head.Goals as goal

pub returns : goal.returns
unfolding head_of
returns c =
    c.put.ensures ⨾
    c.put_exponent.ensures ⨾
    c.put-2.ensures
