-- `small_between` is `between_of` for a number below half a unit. Assumes nothing.
use mathlib.Core.Path.{◌≡◌, sym, subst}
use mathlib.Core.Bool.{true}
use Rattle.exact.specs.Binary32.{zero₃₂, one₃₂}
use lib.Dec.{T}
use lib.Ieee.{Float, binary32, fits, of_bits, le}
use Rattle.curve.proofs.Positions.{Level}
use Rattle.fixed_point.specs.Between.{between_of}
use Rattle.fixed_point.proofs.Heights.{is_number, level_of_lem, small_below, small_not_below, small_not_above, small_above}
use Rattle.fixed_point.proofs.small_between.Goals as goal

level : (x : Float) → fits binary32 x ≡ true → le zero₃₂ x ≡ true → le x one₃₂ ≡ true → Level x
level x f h g = level_of_lem x (subst T (sym f) tt) h g

pub returns-then-low-gt0 : goal.returns-then-low-gt0
unfolding between_of
returns-then-low-gt0 c = simp (is_number _ (level _ c.well_formed.0.1 c.requires.0 c.requires.1), small_below _ _ (level _ c.well_formed.0.1 c.requires.0 c.requires.1) c.requires.2 c.if-low-gt0.true)

pub returns-then-high-gt0 : goal.returns-then-high-gt0
unfolding between_of
returns-then-high-gt0 c = simp (is_number _ (level _ c.well_formed.0.1 c.requires.0 c.requires.1), small_not_below _ _ (level _ c.well_formed.0.1 c.requires.0 c.requires.1) c.requires.2 c.if-low-gt0.false, small_not_above _ _ (level _ c.well_formed.0.1 c.requires.0 c.requires.1) c.requires.2 c.if-high-gt0.true)

pub returns-then-x : goal.returns-then-x
unfolding between_of of_bits
returns-then-x c =
    let l = level _ c.well_formed.0.1 c.requires.0 c.requires.1 in
    let p = c.requires.2 in
    simp (is_number _ l, small_not_below _ _ l p c.if-low-gt0.false, small_above _ _ l c.if-high-gt0.false, c.if-x.true)

pub returns : goal.returns
unfolding between_of of_bits
returns c =
    let l = level _ c.well_formed.0.1 c.requires.0 c.requires.1 in
    let p = c.requires.2 in
    simp (is_number _ l, small_not_below _ _ l p c.if-low-gt0.false, small_above _ _ l c.if-high-gt0.false, c.if-x.false)
