-- `low_pass_dials` writes `low_pass_dials`: its parts, one after the other. Assumes nothing.
use Rattle.text.proofs.Writing.{◌⨾◌}
use Rattle.tone_dials.specs.Tones.{low_pass_dials}
use Rattle.tone_dials.proofs.low_pass_dials.Goals as goal

pub returns : goal.returns
unfolding low_pass_dials
returns c =
    c.put_plain.ensures ⨾
    c.put_poles.ensures
