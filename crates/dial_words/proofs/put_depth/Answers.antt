-- `put_depth` writes `depth_dial` of the two bytes, and of the source's. Assumes nothing.
use Rattle.text.proofs.Writing.{◌⨾◌}
use Rattle.dial_lines.specs.Lines.{dial_text}
use Rattle.dial_words.proofs.put_depth.Goals as goal

pub returns : goal.returns
unfolding dial_text
returns c =
    rw c.byte_at.ensures at (c.start_line.ensures.text ⨾
    c.put_depth.ensures ⨾
    c.end.ensures)
