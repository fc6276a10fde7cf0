-- `every_shape_byte` is `shapes_row`. Assumes nothing.
use borrow.Author.Rules.{rules}
use Rattle.trials.proofs.Rows.{row_of_both}
use Rattle.shape_trials.specs.Shapes.{unnamed_trial, named_trial}
use Rattle.checklist_rows.specs.Rows.{shapes_row}
use Rattle.checklist_rows.proofs.every_shape_byte.Goals as goal

pub returns : goal.returns
unfolding shapes_row
returns c =
    row_of_both _ _ c.start.ensures
    (c.note_trials.ensures unnamed_trial (λ n t below given. search rules))
    (c.note_trials-2.ensures named_trial (λ n t below given. search rules))
