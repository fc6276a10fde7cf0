-- `lfo_sine` is `sine_of`. Assumes nothing.
use Rattle.lfo_shapes.specs.Formula.{sine_of}
use borrow.Author.Rules.{rules}
use Rattle.lfo_shapes.proofs.lfo_sine.Goals as goal

pub sin_turns-requires : goal.sin_turns-requires
unfolding sine_of
sin_turns-requires c = search rules

pub returns : goal.returns
unfolding sine_of
returns c = simp c.sin_turns.ensures
