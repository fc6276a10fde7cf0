-- `place` is `place_of`: the constant is the step, 1 / 96 rounded. Assumes nothing.
use mathlib.Core.Path.{refl}
use lib.Ieee.{of_bits, neg, div}
use Rattle.walk.specs.Formula.{step_of, place_of}
use borrow.Author.Rules.{rules}
use Rattle.walk.proofs.place.Goals as goal

pub int_to_float-result : goal.int_to_float-result
unfolding step_of place_of of_bits neg div
int_to_float-result c = search rules

pub returns : goal.returns
unfolding step_of place_of of_bits neg div
returns c = refl
