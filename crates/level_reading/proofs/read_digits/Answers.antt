-- `read_digits` is `level_over` of what the digits read as: each answer by its tests. Assumes nothing.
use mathlib.Core.Path.{sym, ◌∙◌}
use borrow.Author.Tests.{eqb-true, eqb-false}
use Rattle.level_reading.proofs.Digits.{digits_each}
use Rattle.level_reading.proofs.Levels.{level_other, level_zero, level_two, level_above, level_one}
use Rattle.level_reading.proofs.read_digits.Goals as goal

pub returns-then-not-all_digits : goal.returns-then-not-all_digits
returns-then-not-all_digits c = level_other _ _ (sym c.all_digits.ensures ∙ c.if-not-all_digits.true)

pub rounded_copy-requires : goal.rounded_copy-requires
rounded_copy-requires c =
    let d = sym c.all_digits.ensures ∙ c.if-not-all_digits.false in
    (c.requires, digits_each c.args.places.now d)

pub returns-then-whole-eq48 : goal.returns-then-whole-eq48
returns-then-whole-eq48 c =
    let d = sym c.all_digits.ensures ∙ c.if-not-all_digits.false in
    level_zero _ _ d c.if-whole-eq48.true c.rounded_copy.ensures

pub returns-then-whole-ne49 : goal.returns-then-whole-ne49
returns-then-whole-ne49 c =
    level_two _ c.args.places.now c.if-whole-eq48.false c.if-whole-ne49.true

pub all_zeros-requires : goal.all_zeros-requires
all_zeros-requires c =
    let d = sym c.all_digits.ensures ∙ c.if-not-all_digits.false in
    digits_each c.args.places.now d

pub returns-then-not-all_zeros : goal.returns-then-not-all_zeros
returns-then-not-all_zeros c =
    let z = sym c.all_zeros.ensures ∙ c.if-not-all_zeros.true in
    level_above _ _ c.if-whole-ne49.false (eqb-false _ _ z)

pub returns : goal.returns
returns c =
    let d = sym c.all_digits.ensures ∙ c.if-not-all_digits.false in
    let z = sym c.all_zeros.ensures ∙ c.if-not-all_zeros.false in
    level_one _ _ d c.if-whole-ne49.false (eqb-true _ _ z)
