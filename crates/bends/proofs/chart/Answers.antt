-- `chart` is `chart_of`: each of its 256 numbers is what the formula comes to, by computation. Assumes nothing.
use mathlib.Core.Path.{refl}
use lib.Ieee.{of_bits, of_int, lt, add, sub, mul, div}
use Rattle.lists.specs.Listed.{listed}
use Rattle.exact.specs.Value.{value}
use Rattle.series.specs.Horner.{horner}
use Rattle.math.specs.Formulas.{clamp_of}
use Rattle.floor.specs.Formula.{floor_of, fract_of}
use Rattle.exp2.specs.Formula.{exp2_scale, exp2_coefficients, exp2_within, exp2_of}
use Rattle.bends.specs.Formula.{bend_of, chart_of}
use Rattle.bends.proofs.chart.Goals as goal

pub returns : goal.returns
unfolding chart_of listed bend_of exp2_of exp2_within clamp_of floor_of fract_of exp2_scale exp2_coefficients horner value of_bits of_int lt add sub mul div
returns c = refl
