-- `fract` is `fract_of`. Assumes nothing.
use Rattle.floor.specs.Formula.{fract_of}
use borrow.Author.Rules.{rules}
use Rattle.floor.proofs.fract.Goals as goal

pub floor-requires : goal.floor-requires
unfolding fract_of
floor-requires c = search rules

pub returns : goal.returns
unfolding fract_of
returns c = simp c.floor.ensures
