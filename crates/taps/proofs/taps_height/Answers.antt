-- `taps_height` is `taps_height_of`; the rest follows from the equation. Assumes nothing.
use mathlib.Core.Path.{sym, subst}
use lib.Dec.{T}
use Rattle.taps.specs.Formula.{taps_height_of}
use Rattle.taps.proofs.Held.{field_held}
use Rattle.taps.proofs.Raised.{level_from_zero}
use Rattle.taps.proofs.Answered.{taps_answered}
use Rattle.taps.proofs.taps_height.Goals as goal

pub drawn_from_zero-requires : goal.drawn_from_zero-requires
drawn_from_zero-requires c = level_from_zero _ _ _ c.taps_level.ensures

pub returns : goal.returns
unfolding taps_height_of
returns c =
    let at = c.well_formed.0.1.1.0 in
    let tall = c.well_formed.0.1.1.1.0 in
    taps_answered c.args.taps c.args.t c.drawn_from_zero.result
    (λ i. field_held c.args.taps.at _ i at.1.1)
    (λ i. field_held c.args.taps.tall _ i tall.1.1)
    (subst T (sym c.well_formed.1.0.1) tt)
    (simp (c.drawn_from_zero.ensures, c.taps_level.ensures, c.position.ensures))
