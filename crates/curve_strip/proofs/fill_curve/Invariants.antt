-- `fill_curve` fills the strip, and answers that no height takes steps. The loop's invariant: the first i samples are written. Assumes nothing.
use Rattle.strip.proofs.Filling.{Filled}
use Rattle.curve_strip.proofs.fill_curve.Given as goal

abbrev pub invariant-loop-i : goal.invariant-loop-i
invariant-loop-i g l = Filled (g.C.Curve.shape l.curve) l.n l.i l.initial.out l.out
