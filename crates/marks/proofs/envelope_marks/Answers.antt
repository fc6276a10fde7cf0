-- `envelope_marks` stores `envelope_marks`. Assumes nothing.
use Rattle.marks.specs.Marks.{envelope_marks, pushed, no_marks, stored, count_of}
use Rattle.lists.specs.Padded.{padded}
use Rattle.marks.proofs.envelope_marks.Goals as goal

pub returns : goal.returns
unfolding envelope_marks pushed no_marks stored padded count_of
returns c = simp (c.push.ensures, c.push-sustain.ensures, c.push-decay.ensures, c.push-attack.ensures, c.no_marks.ensures)
