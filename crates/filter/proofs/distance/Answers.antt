-- `distance` is `distance_of`. Assumes nothing.
use mathlib.Core.Path.{refl}
use Rattle.filter.specs.Formula.{distance_of}
use Rattle.filter.proofs.distance.Goals as goal

pub returns : goal.returns
unfolding distance_of
returns c = refl
