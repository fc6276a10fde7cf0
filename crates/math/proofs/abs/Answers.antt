-- `abs` is `abs_of`: a NaN is one still, and any other float has its bits without the sign. Assumes nothing.
use mathlib.Core.Path.{sym, subst}
use mathlib.Core.Bool.{true, false}
use lib.Dec.{T}
use lib.Ieee.{binary32, fits}
use Rattle.math.proofs.Nan.{is_nan_tested, not_nan}
use Rattle.math.proofs.Size.{nan_size, size_no_nan, size_by_bits}
use Rattle.math.proofs.abs.Goals as goal

pub returns-then-x : goal.returns-then-x
returns-then-x c = nan_size _ (is_nan_tested true _ c.if-x.true)

pub float_to_bits-result : goal.float_to_bits-result
float_to_bits-result c = not_nan _ (is_nan_tested false _ c.if-x.false)

pub float_from_bits-result : goal.float_from_bits-result
float_from_bits-result c = size_no_nan _ (subst T (sym c.well_formed.0.1) tt) (is_nan_tested false _ c.if-x.false)

pub returns : goal.returns
returns c = size_by_bits _ (subst T (sym c.well_formed.0.1) tt)
