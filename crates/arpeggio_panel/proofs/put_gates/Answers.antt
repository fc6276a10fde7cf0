-- `put_gates` writes `gate_text` of the two bytes. Assumes nothing.
use Rattle.arpeggio_panel.proofs.put_gates.Goals as goal

pub returns : goal.returns
returns c =
    rw (c.byte_at-was.ensures, c.byte_at-time.ensures) at
    c.put_gate.ensures
