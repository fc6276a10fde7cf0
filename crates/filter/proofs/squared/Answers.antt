-- `squared` is `squared_of`. Assumes nothing.
use mathlib.Core.Path.{refl}
use Rattle.filter.specs.Formula.{squared_of}
use Rattle.filter.proofs.squared.Goals as goal

pub returns : goal.returns
unfolding squared_of
returns c = refl
