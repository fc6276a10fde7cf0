-- `copy_gate_starts` writes the first places of its array and leaves the others. The loop's invariant: those before i are written. Assumes nothing.
use mathlib.Core.Path.{◌≡◌}
use Rattle.gate_numbers.specs.Results.{gate_start}
use Rattle.lists.specs.Written.{written}
use Rattle.gate_numbers.proofs.copy_gate_starts.Given as goal

abbrev pub invariant-loop-i : goal.invariant-loop-i
invariant-loop-i l = l.out ≡ written (gate_start l.gates) l.i l.initial.out
