-- `between` is `between_of` for a number from 0 to 1. Assumes nothing.
use mathlib.Core.Path.{◌≡◌, refl, sym, subst, ◌∙◌}
use mathlib.Core.Bool.{true}
use Rattle.exact.specs.Binary32.{zero₃₂, one₃₂}
use native.Mathlib.Omega.{arith}
use lib.Dec.{T}
use lib.Ieee.{Float, binary32, fits, of_bits, le}
use Rattle.curve.proofs.Positions.{Level}
use Rattle.fixed_point.proofs.Cases.{range, level_number}
use Rattle.fixed_point.proofs.Heights.{level_of_lem, large}
use borrow.Author.Rules.{rules}
use Rattle.fixed_point.proofs.between.Goals as goal

level : (x : Float) → fits binary32 x ≡ true → le zero₃₂ x ≡ true → le x one₃₂ ≡ true → Level x
level x f h g = level_of_lem x (subst T (sym f) tt) h g

pub small_between-requires : goal.small_between-requires
unfolding of_bits
small_between-requires c = search rules

pub returns-then-x : goal.returns-then-x
unfolding of_bits
returns-then-x c = search rules

pub float_to_bits-bits : goal.float_to_bits-bits
unfolding of_bits
float_to_bits-bits c = level_number _ (level _ c.well_formed.0.1 c.requires.0 c.requires.1)

pub overflow_add-digits : goal.overflow_add-digits
unfolding of_bits
overflow_add-digits c = search rules

pub overflow_cast-digits : goal.overflow_cast-digits
unfolding of_bits
overflow_cast-digits c = search rules

pub overflow_sub-bits : goal.overflow_sub-bits
unfolding of_bits
overflow_sub-bits c = omega (arith, (range _ (level _ c.well_formed.0.1 c.requires.0 c.requires.1) c.if-x.false).high)

pub digits_between-requires : goal.digits_between-requires
unfolding of_bits
digits_between-requires c = (search rules, omega (arith, (range _ (level _ c.well_formed.0.1 c.requires.0 c.requires.1) c.if-x.false).low))

pub returns : goal.returns
unfolding of_bits
returns c = c.digits_between.ensures ∙ large _ _ _ (level _ c.well_formed.0.1 c.requires.0 c.requires.1) c.if-x.false _ refl
