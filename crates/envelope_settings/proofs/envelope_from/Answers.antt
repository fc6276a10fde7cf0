-- `envelope_from` is `envelope_of`. Assumes nothing.
use Rattle.envelope_settings.specs.Formula.{envelope_of, first_of, second_of, third_of, total_of}
use Rattle.envelope_settings.proofs.envelope_from.Goals as goal

pub returns : goal.returns
unfolding envelope_of first_of second_of third_of total_of
returns c =
    simp (
      c.bend-3.ensures.is,
      c.bend-2.ensures.is,
      c.bend.ensures.is,
      c.sustain_end.ensures,
      c.byte-2.ensures,
      c.byte.ensures,
      c.byte-fall.ensures,
      c.byte-rise.ensures,
    )
