-- `limit_of` is `limit_of`. Assumes nothing.
use mathlib.Core.Path.{refl}
use Rattle.walk.specs.Formula.{limit_of}
use Rattle.walk.proofs.limit_of.Goals as goal

pub returns : goal.returns
unfolding limit_of
returns c = refl
