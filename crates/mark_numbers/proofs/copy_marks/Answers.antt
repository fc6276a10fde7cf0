-- `copy_marks` writes both arrays and counts; beside a refusal there is nothing to write. Assumes nothing.
use Rattle.lists.specs.Written.{written}
use Rattle.marks.specs.Marks.{no_marks, stored, count_of}
use Rattle.mark_numbers.specs.Results.{marks_given}
use Rattle.mark_numbers.proofs.copy_marks.Goals as goal

pub returns-in-Ok : goal.returns-in-Ok
unfolding marks_given
returns-in-Ok c =
    let found = c.in-Ok.is in
    record { result = simp (found, c.marks_used.ensures); at = simp (found, c.copy_mark_positions.ensures); kind = simp (found, c.copy_mark_kinds.ensures) }

pub returns-in-Err : goal.returns-in-Err
unfolding marks_given no_marks stored count_of written
returns-in-Err c = let found = c.in-Err.is in record { result = simp (found, c.refusal_number.ensures); at = simp found; kind = simp found }
