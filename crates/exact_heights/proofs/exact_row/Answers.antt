use mathlib.Core.Path.{ap, ◌∙◌}
use Rattle.trials.specs.Noted.{noted_of}
use Rattle.exact_trials.specs.LineTrials.{line_trial}
use Rattle.exact_heights.proofs.Bytes.{none_read, one_read, all_read}
use Rattle.exact_heights.proofs.exact_row.Goals as goal

pub loop-b-init : goal.loop-b-init
loop-b-init c = none_read _ c.start.ensures c.no_line.ensures

pub loop-b-preserved : goal.loop-b-preserved
loop-b-preserved c = one_read _ _ _ c.loop-b-test.true c.loop-b.invariant c.step-reading.ensures

pub returns : goal.returns
returns c =
    c.note.ensures ∙ (ap (noted_of c.loop-b.reading.row) (c.line_trial.ensures ∙ ap line_trial c.end_line.ensures) ∙
    all_read _ _ _ c.loop-b-test.false c.loop-b.invariant)
