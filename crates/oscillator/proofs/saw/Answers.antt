-- `saw` is `saw_of`. Assumes nothing.
use mathlib.Core.Path.{refl}
use Rattle.oscillator.specs.Formula.{saw_of}
use Rattle.oscillator.proofs.saw.Goals as goal

pub returns : goal.returns
unfolding saw_of
returns c = refl
