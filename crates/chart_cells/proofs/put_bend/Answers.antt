-- `put_bend` puts `six_places`: the millionths of a bend are those of its quarter, taken four by four. Assumes nothing.
use mathlib.Core.Path.{ap, ◌∙◌}
use Prim.Native.Nat.{ℕ}
use lib.Ieee.{Float}
use Rattle.exact.specs.Binary32.{◌⊗◌, quarter₃₂}
use Rattle.numerals.specs.Spelled.{fixed_of}
use Rattle.fixed_point.specs.Nearest.{nearest_of}
use Rattle.text.proofs.Writing.{puts_as}
use Rattle.chart_cells.specs.Cells.{six_places}
use Rattle.chart_cells.proofs.Places.{millionths}
use borrow.Author.Rules.{rules}
use Rattle.chart_cells.proofs.put_bend.Goals as goal

pub returns : goal.returns
unfolding six_places
returns c =
    puts_as
    (ap (λ (n : ℕ). fixed_of n 6) (c.nearest.ensures.0 ∙ ap (λ (x : Float). nearest_of (x ⊗ quarter₃₂) 4000000) c.bend.ensures.is ∙ millionths _ (search rules)))
    c.put_fixed.ensures
