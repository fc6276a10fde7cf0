-- THE MARKS OF AN IMPULSE TRAIN: docs/SPECIFICATION.md, "Marks, rest, scale, anchor, gates". Definitions only.
use Rattle.std.specs.Prelude.{List, [], ◌∷◌, ◌++◌, ℕ, zero, suc}
use Rattle.marks.specs.declared.MarkKind.TheVariants.{Tap}
use Rattle.marks.specs.declared.Mark.{Mark}
use Rattle.marks.specs.Marks.{mark_of}
use Rattle.taps.specs.declared.Taps.{Taps}
use Rattle.taps.specs.Formula.{at_of}

-- The marks of the first i taps, in their order: one at each, a NaN or an infinity too.
unfoldable pub tap_marks : Taps → ℕ → List Mark
tap_marks taps zero = []
tap_marks taps (suc i) = tap_marks taps i ++ (mark_of (at_of taps i) Tap ∷ [])
