-- `find_largest` is `largest_of` all samples. The loop's invariant: it is that of the first i. Assumes nothing.
use mathlib.Core.Path.{◌≡◌}
use Rattle.largest_difference.specs.Largest.{heights_of, largest_of}
use Rattle.largest_difference.proofs.find_largest.Given as goal

abbrev pub invariant-loop-i : goal.invariant-loop-i
invariant-loop-i l = l.found ≡ largest_of (heights_of l.old) (heights_of l.new) l.i
