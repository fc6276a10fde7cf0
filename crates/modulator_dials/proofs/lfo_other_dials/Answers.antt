-- `lfo_other_dials` writes `lfo_other_dials`: its parts, one after the other. Assumes nothing.
use Rattle.text.proofs.Writing.{◌⨾◌}
use Rattle.modulator_dials.specs.Modulators.{lfo_other_dials}
use Rattle.modulator_dials.proofs.lfo_other_dials.Goals as goal

pub returns : goal.returns
unfolding lfo_other_dials
returns c =
    c.put_plain.ensures ⨾
    c.put_switch.ensures ⨾
    c.put_plain-2.ensures
