-- `walked` is `walked_of`: on from the start, and the cut step. Assumes nothing.
use native.Mathlib.Omega.{arith}
use Rattle.walk.proofs.Onward.{may_go, full_steps_small, from_start, finished}
use Rattle.walk.proofs.walked.Goals as goal

pub walk_on-walk-requires : goal.walk_on-walk-requires
walk_on-walk-requires c = may_go _ _ 0 (c.start.ensures _) (omega arith)

pub cut_height-requires : goal.cut_height-requires
cut_height-requires c =
    let a = c.args in
    may_go _ _ _ (from_start a.lfo a.phase _ (c.start.ensures _) c.walk_on-walk.ensures) (full_steps_small a.phase)

pub returns : goal.returns
returns c =
    let a = c.args in
    finished a.lfo a.phase _ (c.start.ensures _) c.walk_on-walk.ensures c.limit_of-limit.ensures c.cut_height.ensures
