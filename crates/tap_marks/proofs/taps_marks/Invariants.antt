-- `taps_marks` stores `tap_marks` of all the taps that are used. The loop's invariant: what is stored is the marks of the taps that were passed. Assumes nothing.
use mathlib.Core.Path.{◌≡◌}
use Rattle.marks.specs.Marks.{stored}
use Rattle.tap_marks.specs.Marks.{tap_marks}
use Rattle.tap_marks.proofs.taps_marks.Given as goal

abbrev pub invariant-loop-at : goal.invariant-loop-at
invariant-loop-at l = l.marks ≡ stored (tap_marks l.fn.taps l.at-index)
