-- `position` is `position_of`. Assumes nothing.
use mathlib.Core.Bool.{true, false}
use Rattle.math.proofs.Nan.{is_nan_tested}
use Rattle.curve.specs.Curve.{position_of}
use borrow.Author.Rules.{rules}
use Rattle.curve.proofs.position.Goals as goal

pub returns-then-t : goal.returns-then-t
unfolding position_of
returns-then-t c = simp (is_nan_tested true _ c.if-t.true)

pub clamp_unit-requires : goal.clamp_unit-requires
unfolding position_of
clamp_unit-requires c = search rules

pub returns : goal.returns
unfolding position_of
returns c = simp (is_nan_tested false _ c.if-t.false, c.clamp_unit.ensures)
