use mathlib.Core.Path.{refl, sym}
use native.Mathlib.Nat.{le_antisymm}
use Rattle.older_curve.specs.Older.{same_points}
use Rattle.older_curve.proofs.Points.{point_same, point_other}
use Rattle.older_curve.proofs.same_points.Goals as goal

pub loop-i-init : goal.loop-i-init
unfolding same_points
loop-i-init c = refl

pub returns-then-nearest : goal.returns-then-nearest
returns-then-nearest c = sym (point_other _ _ _ c.nearest.ensures.0 c.nearest-in-loop-i.ensures.0 c.if-nearest.true 501 c.loop-i-test.true)

pub loop-i-preserved : goal.loop-i-preserved
loop-i-preserved c = point_same _ _ _ c.nearest.ensures.0 c.nearest-in-loop-i.ensures.0 c.if-nearest.false c.loop-i.invariant

pub returns : goal.returns
returns c = sym (rw (le_antisymm c.loop-i.auto.i-end c.loop-i-test.false) at c.loop-i.invariant)
