-- `both_slews` is `slew_row`. Assumes nothing.
use borrow.Author.Rules.{rules}
use Rattle.trials.proofs.Rows.{row_of_lem}
use Rattle.slew_trials.specs.Slew.{slew_trial}
use Rattle.checklist_rows.specs.Rows.{slew_row}
use Rattle.checklist_rows.proofs.both_slews.Goals as goal

pub returns : goal.returns
unfolding slew_row
returns c = row_of_lem _ c.start.ensures (c.note_trials.ensures slew_trial (λ n t below given. search rules))
