-- `put_gate` writes `gate_text`: its parts, one after the other. Assumes nothing.
use Rattle.text.proofs.Writing.{◌⨾◌}
use Rattle.panel_gates.specs.GateText.{gate_text}
use Rattle.panel_gates.proofs.put_gate.Goals as goal

pub returns : goal.returns
unfolding gate_text
returns c =
    rw c.arpeggiator_gates.ensures at (c.put.ensures ⨾
    c.put_older_gate.ensures ⨾
    c.put_bars.ensures ⨾
    c.put_steps.ensures)
