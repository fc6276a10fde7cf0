-- `empty_program` is `empty_row`. Assumes nothing.
use borrow.Author.Rules.{rules}
use Rattle.trials.proofs.Rows.{row_of_lem}
use Rattle.checklist_rows.specs.Empty.{empty_trial}
use Rattle.checklist_rows.specs.Rows.{empty_row}
use Rattle.checklist_rows.proofs.empty_program.Goals as goal

pub returns : goal.returns
unfolding empty_row
returns c = row_of_lem _ c.start.ensures (c.note_trials.ensures empty_trial (λ n t below given. search rules))
