-- `ramp_down` is `ramp_down_of`. Assumes nothing.
use Rattle.lfo_shapes.specs.Formula.{ramp_down_of}
use borrow.Author.Rules.{rules}
use Rattle.lfo_shapes.proofs.ramp_down.Goals as goal

pub wrap-requires : goal.wrap-requires
unfolding ramp_down_of
wrap-requires c = search rules

pub returns : goal.returns
unfolding ramp_down_of
returns c = simp c.wrap.ensures
