-- `samples_before` is `samples_before` of all 501 samples. The loop's invariant: those that were passed are counted. Assumes nothing.
use mathlib.Core.Path.{◌≡◌}
use Prim.Native.Nat.{◌≤◌}
use Rattle.caption_cells.specs.Cells.{samples_before}
use Rattle.caption_cells.proofs.samples_before.Given as goal

abbrev pub invariant-loop-caption : goal.invariant-loop-caption
invariant-loop-caption l = (l.count ≤ l.caption-index) × (l.count ≡ samples_before l.k l.captions l.caption-index)
