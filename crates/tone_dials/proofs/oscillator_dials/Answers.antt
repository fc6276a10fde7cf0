-- `oscillator_dials` writes `oscillator_dials`: its parts, one after the other. Assumes nothing.
use Rattle.text.proofs.Writing.{◌⨾◌}
use Rattle.tone_dials.specs.Tones.{oscillator_dials}
use Rattle.tone_dials.proofs.oscillator_dials.Goals as goal

pub returns : goal.returns
unfolding oscillator_dials
returns c =
    c.put_switch.ensures ⨾
    c.put_switch-2.ensures ⨾
    c.put_source.ensures ⨾
    c.put_depth.ensures
