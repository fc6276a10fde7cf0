-- `walk_on` goes on to the full steps of the phase. The loop's invariant: the walk stands after its full steps, and the search from there on is that from where it began. Assumes nothing.
use mathlib.Core.Path.{◌≡◌}
use Rattle.walk.specs.Reached.{reached_of, full_on}
use Rattle.walk.proofs.walk_on.Given as goal

abbrev pub invariant-loop-full : goal.invariant-loop-full
invariant-loop-full l = (l.on ≡ reached_of l.shape l.limit l.full) × (full_on l.phase l.full ≡ full_on l.phase l.initial.full)
