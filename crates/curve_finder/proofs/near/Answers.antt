-- `near` tells whether two levels differ by at most 1/512: a test for each side. Assumes nothing.
use mathlib.Core.Path.{◌≡◌, sym, subst}
use mathlib.Core.Bool.{true}
use lib.Dec.{T}
use lib.Ieee.{Float, binary32, fits}
use Rattle.level.specs.Level.{is_level}
use Rattle.curve.proofs.Positions.{Level}
use Rattle.level.proofs.Levels.{level_of_lem}
use Rattle.curve_finder.proofs.Distance.{first_above, second_above, neither_above}
use Rattle.curve_finder.proofs.near.Goals as goal

level : (x : Float) → fits binary32 x ≡ true → is_level x ≡ true → Level x
level x f h = level_of_lem x (subst T (sym f) tt) h

pub returns-then-b-a : goal.returns-then-b-a
returns-then-b-a c = first_above _ _ (level _ c.well_formed.0.1 c.requires.0) (level _ c.well_formed.1.0.1 c.requires.1) c.if-b-a.true

pub returns-then-a-b : goal.returns-then-a-b
returns-then-a-b c = second_above _ _ (level _ c.well_formed.0.1 c.requires.0) (level _ c.well_formed.1.0.1 c.requires.1) c.if-a-b.true

pub returns : goal.returns
returns c = neither_above _ _ (level _ c.well_formed.0.1 c.requires.0) (level _ c.well_formed.1.0.1 c.requires.1) c.if-b-a.false c.if-a-b.false
