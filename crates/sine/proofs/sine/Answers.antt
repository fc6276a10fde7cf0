-- `sine` is `sine_of_quarter`. Assumes nothing.
use mathlib.Core.Path.{refl}
use Rattle.series.specs.Horner.{horner}
use Rattle.sine.specs.Formula.{sine_coefficients, sine_of_angle, sine_of_quarter}
use Rattle.sine.proofs.sine.Goals as goal

pub returns : goal.returns
unfolding horner sine_coefficients sine_of_angle sine_of_quarter
returns c = refl
