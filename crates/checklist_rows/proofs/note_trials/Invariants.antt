-- `note_trials` notes numbered trials. The loop's invariant: those before n are noted. Assumes nothing.
use mathlib.Core.Path.{◌≡◌}
use Prim.Native.Nat.{ℕ}
use Rattle.trials.specs.declared.Trial.{Trial}
use Rattle.trials.specs.Trials.{numbered}
use Rattle.trials.specs.Noted.{noted_all}
use Rattle.checklist_rows.specs.Rows.{GivesBelow}
use Rattle.checklist_rows.proofs.note_trials.Given as goal

abbrev pub invariant-loop-n : goal.invariant-loop-n
invariant-loop-n g l = (f : ℕ → Trial) → GivesBelow (goal.F-post g l.fn.trial) f l.fn.count → l.next ≡ noted_all l.fn.row (numbered f l.n)
