-- `envelope_dials` writes `envelope_dials`: its parts, one after the other. Assumes nothing.
use Rattle.text.proofs.Writing.{◌⨾◌}
use Rattle.modulator_dials.specs.Modulators.{envelope_dials}
use Rattle.modulator_dials.proofs.envelope_dials.Goals as goal

pub returns : goal.returns
unfolding envelope_dials
returns c =
    c.put_curved.ensures ⨾
    c.put_curved-2.ensures ⨾
    c.put_curved-3.ensures ⨾
    c.put_curved-4.ensures
