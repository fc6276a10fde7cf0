-- `log2_mantissa` is `log2_mantissa`. Assumes nothing.
use mathlib.Core.Path.{refl}
use Rattle.series.specs.Horner.{horner}
use Rattle.log2.specs.Formula.{log2_coefficients, log2_series, log2_mantissa}
use Rattle.log2.proofs.log2_mantissa.Goals as goal

pub returns : goal.returns
unfolding horner log2_coefficients log2_series log2_mantissa
returns c = refl
