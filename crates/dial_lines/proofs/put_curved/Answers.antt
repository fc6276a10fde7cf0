-- `put_curved` writes `curved_dial` of the two bytes, and of the curve's two. Assumes nothing.
use Rattle.text.proofs.Writing.{◌⨾◌}
use Rattle.dial_lines.specs.Lines.{dial_text}
use Rattle.dial_lines.proofs.put_curved.Goals as goal

pub returns : goal.returns
unfolding dial_text
returns c =
    rw (c.byte_at.ensures, c.byte_at-2.ensures) at (c.start_line.ensures.text ⨾
    c.put_curve_note.ensures ⨾
    c.end.ensures)
