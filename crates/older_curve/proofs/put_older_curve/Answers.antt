-- `put_older_curve` writes `older_curve_text`: nothing where the points are the same. Assumes nothing.
use mathlib.Core.Path.{sym}
use Rattle.text.proofs.Writing.{puts_none}
use Rattle.older_curve.specs.Older.{older_curve_text}
use Rattle.older_curve.proofs.put_older_curve.Goals as goal

pub returns-then-not-same_points : goal.returns-then-not-same_points
unfolding older_curve_text
returns-then-not-same_points c = simp (sym c.same_points.ensures, c.if-not-same_points.true) c.put_line.ensures

pub returns-else-not-same_points : goal.returns-else-not-same_points
unfolding older_curve_text
returns-else-not-same_points c = simp (sym c.same_points.ensures, c.if-not-same_points.false) (puts_none _)
