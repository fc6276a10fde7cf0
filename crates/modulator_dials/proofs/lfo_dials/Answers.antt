-- `lfo_dials` writes `lfo_dials`: its parts, one after the other. Assumes nothing.
use Rattle.text.proofs.Writing.{◌⨾◌}
use Rattle.modulator_dials.specs.Modulators.{lfo_dials}
use Rattle.modulator_dials.proofs.lfo_dials.Goals as goal

pub returns : goal.returns
unfolding lfo_dials
returns c =
    c.put_shape.ensures ⨾
    c.put_plain.ensures ⨾
    c.put_switch.ensures
