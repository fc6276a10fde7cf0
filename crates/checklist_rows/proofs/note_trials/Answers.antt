use Rattle.trials.proofs.Rows.{none_noted, one_noted}
use Rattle.checklist_rows.proofs.note_trials.Goals as goal

pub loop-n-init : goal.loop-n-init
loop-n-init g c = λ f given. none_noted _ _

pub loop-n-preserved : goal.loop-n-preserved
loop-n-preserved g c = λ f given. one_noted _ f _ (c.loop-n.invariant f given) (given _ _ c.loop-n-test.true c.trial.ensures) c.note-next.ensures
