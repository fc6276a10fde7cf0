-- `same_points` is `same_points` of all 501. The loop's invariant: the first i samples are drawn at the same points. Assumes nothing.
use mathlib.Core.Path.{◌≡◌}
use mathlib.Core.Bool.{true}
use Rattle.older_curve.specs.Older.{same_points}
use Rattle.older_curve.proofs.same_points.Given as goal

abbrev pub invariant-loop-i : goal.invariant-loop-i
invariant-loop-i l = same_points l.old l.new l.i ≡ true
