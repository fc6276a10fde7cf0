-- `to_nearest` is `nearest`, by what is carried out of the doubled digits. Assumes nothing.
use mathlib.Core.Path.{sym, ◌∙◌}
use borrow.Author.Tests.{eqb-true, eqb-false}
use Rattle.level_reading.proofs.Ties.{below_half, at_half, above_half}
use Rattle.level_reading.proofs.to_nearest.Goals as goal

pub returns-then-double-eq0 : goal.returns-then-double-eq0
returns-then-double-eq0 c = below_half _ _ _ _ c.double.ensures c.if-double-eq0.true

pub returns-then-all_zeros : goal.returns-then-all_zeros
returns-then-all_zeros c =
    let z = sym c.all_zeros.ensures ∙ c.if-all_zeros.true in
    at_half _ _ _ _ c.double.ensures c.if-double-eq0.false (eqb-true _ _ z)

pub returns : goal.returns
returns c =
    let z = sym c.all_zeros.ensures ∙ c.if-all_zeros.false in
    above_half _ _ _ _ c.double.ensures c.if-double-eq0.false (eqb-false _ _ z)
