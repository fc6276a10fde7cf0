use mathlib.Core.Path.{◌∙◌}
use mathlib.Core.Logic.{inl, inr}
use Prim.Native.Nat.{◌<◌}
use native.Mathlib.Omega.{arith}
use Rattle.level_reading.proofs.RoundBits.{Leading}
use Rattle.level_reading.proofs.Places.{none_kept, one_kept, all_kept}
use Rattle.level_reading.proofs.rounded.Goals as goal
use Rattle.level_reading.proofs.rounded.Goals.{then-loop-left-test+else-kept-lt-FIELD, else-loop-left-test}

pub loop-left-init : goal.loop-left-init
loop-left-init c = none_kept _ c.requires

pub loop-left-preserved : goal.loop-left-preserved
loop-left-preserved c =
    let l = c.loop-left in
    let h : 0 < l.left = omega arith in
    one_kept _ _ _ _ _ _ h c.if-kept-lt-FIELD.true l.invariant c.double.ensures

-- The loop ended at a kept number with 24 digits, or with no place left.
pub returns : goal.returns
returns c =
    let l = c.loop-left in
    let e : Leading l.kept l.left = elim c.loop-left-test.branch [
      | then-loop-left-test+else-kept-lt-FIELD w ↦ inl w.if-kept-lt-FIELD.false
      | else-loop-left-test w ↦ inr (omega arith)
    ] in
    c.float_of.ensures ∙ all_kept _ _ _ _ _ l.invariant e c.to_nearest.ensures
