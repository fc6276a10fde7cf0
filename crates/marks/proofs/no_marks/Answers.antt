-- `no_marks` is `no_marks`. Assumes nothing.
use mathlib.Core.Path.{refl}
use Rattle.marks.specs.Marks.{no_marks, stored, count_of}
use Rattle.lists.specs.Padded.{padded}
use Rattle.marks.proofs.no_marks.Goals as goal

pub returns : goal.returns
unfolding no_marks stored padded count_of
returns c = refl
