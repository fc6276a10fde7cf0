-- `both_edges` is `edges_row`. Assumes nothing.
use borrow.Author.Rules.{rules}
use Rattle.trials.proofs.Rows.{row_of_both}
use Rattle.edge_trials.specs.Edges.{known_trial, beyond_trial}
use Rattle.checklist_rows.specs.Rows.{edges_row}
use Rattle.checklist_rows.proofs.both_edges.Goals as goal

pub returns : goal.returns
unfolding edges_row
returns c =
    row_of_both _ _ c.start.ensures
    (c.note_trials.ensures known_trial (λ n t below given. search rules))
    (c.note_trials-2.ensures beyond_trial (λ n t below given. search rules))
