-- `cycles` pushes `cycles_of`. The loop's invariant: what is stored, with the cycles from the one counted on pushed after it, is what is to be returned. Assumes nothing.
use Prim.Native.Nat.{◌-◌}
use mathlib.Core.Path.{◌≡◌}
use Rattle.marks.specs.Marks.{cycles_of, cycles_from, pushed_all}
use Rattle.marks.proofs.cycles.Given as goal

abbrev pub invariant-loop-count : goal.invariant-loop-count
invariant-loop-count l = pushed_all l.ends (cycles_from l.turns (256 - l.count) l.count) ≡ pushed_all l.initial.ends (cycles_of l.turns)
