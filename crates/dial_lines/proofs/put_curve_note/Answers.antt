-- `put_curve_note` writes `curve_note`: its parts, one after the other. Assumes nothing.
use Rattle.text.proofs.Writing.{◌⨾◌}
use Rattle.dial_lines.specs.Lines.{curve_note}
use Rattle.dial_lines.proofs.put_curve_note.Goals as goal

pub returns : goal.returns
unfolding curve_note
returns c =
    c.put.ensures ⨾
    c.put_decimal.ensures ⨾
    c.put-2.ensures ⨾
    c.put_was.ensures
