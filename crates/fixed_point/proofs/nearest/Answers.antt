-- `nearest` is `nearest_of`. Assumes nothing.
use mathlib.Core.Path.{◌≡◌, refl, sym, subst, ◌∙◌}
use native.Mathlib.Omega.{arith}
use lib.Dec.{T}
use mathlib.Core.Bool.{true}
use lib.Ieee.{Float, fits, binary32, of_bits}
use Rattle.curve.specs.Curve.{position_of}
use Rattle.fixed_point.specs.Nearest.{nearest_of}
use Rattle.curve.proofs.Positions.{Level, position_level}
use Rattle.fixed_point.proofs.Cases.{small, range, large, at_most, level_number}
use borrow.Author.Rules.{rules}
use Rattle.fixed_point.proofs.nearest.Goals as goal

-- what `position` answers is a number from 0 to 1
level : (x p : Float) → fits binary32 x ≡ true → p ≡ position_of x → Level p
level x p f e = subst Level (sym e) (position_level x (subst T (sym f) tt))

pub returns-then-p : goal.returns-then-p
unfolding nearest_of of_bits
returns-then-p c = (rw (← c.position-p.ensures) (small _ _ (level _ _ c.well_formed.0.1 c.position-p.ensures) c.if-p.true (search rules)), search rules)

pub float_to_bits-bits : goal.float_to_bits-bits
float_to_bits-bits c = level_number _ (level _ _ c.well_formed.0.1 c.position-p.ensures)

pub rounded-requires : goal.rounded-requires
rounded-requires c = (search rules, search rules, omega (arith, (range _ (level _ _ c.well_formed.0.1 c.position-p.ensures) c.if-p.false).low))

pub returns : goal.returns
unfolding nearest_of of_bits
returns c =
    let l = level _ _ c.well_formed.0.1 c.position-p.ensures in
    let e = c.rounded.ensures ∙ large _ _ l c.if-p.false _ refl in
    (rw (← c.position-p.ensures) e, rw e (at_most _ _ l))

pub overflow_sub-bits : goal.overflow_sub-bits
overflow_sub-bits c = omega (arith, (range _ (level _ _ c.well_formed.0.1 c.position-p.ensures) c.if-p.false).high)
