-- `peak` is `peak_of`. Assumes nothing.
use mathlib.Core.Path.{refl}
use Rattle.filter.specs.Formula.{peak_of}
use Rattle.filter.proofs.peak.Goals as goal

pub returns : goal.returns
unfolding peak_of
returns c = refl
