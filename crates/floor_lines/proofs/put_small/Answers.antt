-- `put_small` puts `small_text`: its parts, one after the other. Assumes nothing.
use Rattle.text.proofs.Writing.{◌⨾◌}
use Rattle.floor_lines.specs.Lines.{small_text}
use Rattle.floor_lines.proofs.put_small.Goals as goal

pub returns : goal.returns
unfolding small_text
returns c =
    c.put_head.ensures ⨾
    c.put_small_reason.ensures ⨾
    c.put_floor.ensures
