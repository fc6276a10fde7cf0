-- `put_arpeggio` writes `arpeggio_text`: its parts, one after the other. Assumes nothing.
use Rattle.text.proofs.Writing.{◌⨾◌}
use Rattle.arpeggio_panel.specs.Arpeggio.{arpeggio_text}
use Rattle.arpeggio_panel.proofs.put_arpeggio.Goals as goal

pub returns : goal.returns
unfolding arpeggio_text
returns c =
    c.put_place.ensures ⨾
    c.put_title.ensures ⨾
    c.put_gates.ensures ⨾
    c.put_frame.ensures ⨾
    c.put_dial.ensures ⨾
    c.put_end.ensures
