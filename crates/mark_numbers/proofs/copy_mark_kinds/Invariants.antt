-- `copy_mark_kinds` writes the first places of its array and leaves the others. The loop's invariant: those before i are written. Assumes nothing.
use mathlib.Core.Path.{◌≡◌}
use Rattle.mark_numbers.specs.Results.{mark_kind}
use Rattle.lists.specs.Written.{written}
use Rattle.mark_numbers.proofs.copy_mark_kinds.Given as goal

abbrev pub invariant-loop-i : goal.invariant-loop-i
invariant-loop-i l = l.out ≡ written (mark_kind l.marks) l.i l.initial.out
