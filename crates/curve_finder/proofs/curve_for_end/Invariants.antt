-- `curve_for_end` answers as promised: no byte that was passed is an answer. Assumes nothing.
use mathlib.Core.Path.{◌≡◌}
use mathlib.Core.Bool.{true}
use Prim.Native.Nat.{ℕ, ◌<◌}
use Rattle.level.specs.Level.{is_level}
use Rattle.curve_finder.specs.Promises.{EndsNear}
use Rattle.curve_finder.proofs.curve_for_end.Given as goal

abbrev pub invariant-loop-byte : goal.invariant-loop-byte
invariant-loop-byte l = (is_level l.wanted ≡ true) × ((c : ℕ) → c < l.byte → EndsNear l.sustain l.wanted c → ⊥)
