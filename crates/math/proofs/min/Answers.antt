-- `min` is `min_of`: each return rewrites with the tests that led to it. Assumes nothing.
use mathlib.Core.Bool.{true, false}
use Rattle.math.specs.Formulas.{min_of}
use Rattle.math.proofs.Nan.{is_nan_tested}
use Rattle.math.proofs.min.Goals as goal

pub returns-then-x : goal.returns-then-x
unfolding min_of
returns-then-x c = simp (is_nan_tested true _ c.if-x.true)

pub returns-then-y : goal.returns-then-y
unfolding min_of
returns-then-y c = simp (is_nan_tested false _ c.if-x.false, is_nan_tested true _ c.if-y.true)

pub returns-then-x-y : goal.returns-then-x-y
unfolding min_of
returns-then-x-y c = simp (is_nan_tested false _ c.if-x.false, is_nan_tested false _ c.if-y.false, c.if-x-y.true)

pub returns-then-y-x : goal.returns-then-y-x
unfolding min_of
returns-then-y-x c = simp (is_nan_tested false _ c.if-x.false, is_nan_tested false _ c.if-y.false, c.if-x-y.false, c.if-y-x.true)

pub returns : goal.returns
unfolding min_of
returns c = simp (is_nan_tested false _ c.if-x.false, is_nan_tested false _ c.if-y.false, c.if-x-y.false, c.if-y-x.false, c.unsigned_zero.ensures)
