-- `pulse_marks` stores `pulse_marks`. Assumes nothing.
use mathlib.Core.List.{[], ◌∷◌}
use Rattle.marks.specs.Marks.{pulse_marks, sweep_marks, no_marks}
use Rattle.marks.proofs.Stored.{push_more}
use Rattle.marks.proofs.pulse_marks.Goals as goal

pub returns-then-o-2 : goal.returns-then-o-2
unfolding pulse_marks sweep_marks no_marks
returns-then-o-2 c =
    let w = push_more [] _ c.no_marks.ensures c.push-width.ensures in
    let l = push_more (_ ∷ []) _ w c.push-from.ensures in
    let h = push_more (_ ∷ _ ∷ []) _ l c.push.ensures in
    simp (c.if-o.true, c.if-o-2.true) h

pub returns-then-o : goal.returns-then-o
unfolding pulse_marks sweep_marks no_marks
returns-then-o c = simp (c.if-o.true, c.if-o-2.false) (push_more [] _ c.no_marks.ensures c.push-width.ensures)

pub returns : goal.returns
unfolding pulse_marks no_marks
returns c = simp c.if-o.false c.no_marks-2.ensures
