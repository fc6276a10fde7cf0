-- `name_end` is `name_end`. The loop's invariant: from byte i on the name ends where it ends. Assumes nothing.
use mathlib.Core.Path.{◌≡◌}
use Prim.Native.Nat.{◌-◌}
use Rattle.program_name.specs.ProgramName.{end_from, name_end}
use Rattle.program_name.proofs.name_end.Given as goal

abbrev pub invariant-loop-i : goal.invariant-loop-i
invariant-loop-i l = end_from l.block (240 - l.i) l.i ≡ name_end l.block
