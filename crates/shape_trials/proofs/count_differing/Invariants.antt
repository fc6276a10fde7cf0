-- `count_differing` is `differing` at all positions. The loop's invariant: those before i are counted. Assumes nothing.
use mathlib.Core.Path.{◌≡◌}
use Prim.Native.Nat.{◌≤◌}
use Rattle.shape_trials.specs.Shapes.{differing}
use Rattle.shape_trials.proofs.count_differing.Given as goal

abbrev pub invariant-loop-i : goal.invariant-loop-i
invariant-loop-i l = (l.count ≤ l.i) × (l.count ≡ differing l.a l.b l.i)
