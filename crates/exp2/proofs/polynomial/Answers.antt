-- `polynomial` is Horner's rule on the coefficients of exp2. Assumes nothing.
use mathlib.Core.Path.{refl}
use Rattle.series.specs.Horner.{horner}
use Rattle.exp2.specs.Formula.{exp2_coefficients}
use Rattle.exp2.proofs.polynomial.Goals as goal

pub returns : goal.returns
unfolding horner exp2_coefficients
returns c = refl
