-- `copy_settings` writes the first places of its array and leaves the others. The loop's invariant: those before i are written. Assumes nothing.
use mathlib.Core.Path.{◌≡◌}
use Rattle.c_settings.specs.Results.{setting_at}
use Rattle.lists.specs.Written.{written}
use Rattle.c_settings.proofs.copy_settings.Given as goal

abbrev pub invariant-loop-i : goal.invariant-loop-i
invariant-loop-i l = l.out ≡ written (setting_at l.numbers) l.i l.initial.out
