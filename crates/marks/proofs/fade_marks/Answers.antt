-- `fade_marks` stores `fade_marks`. Assumes nothing.
use Rattle.marks.specs.Marks.{fade_marks, pushed, no_marks, stored, count_of}
use Rattle.lists.specs.Padded.{padded}
use Rattle.marks.proofs.fade_marks.Goals as goal

pub returns : goal.returns
unfolding fade_marks pushed no_marks stored padded count_of
returns c = simp (c.push.ensures, c.push-attack.ensures, c.no_marks.ensures)
