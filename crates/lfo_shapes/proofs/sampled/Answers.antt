-- `sampled` is `sampled_of`. Assumes nothing.
use Rattle.lfo_shapes.specs.Formula.{index_of, sampled_of}
use borrow.Author.Rules.{rules}
use Rattle.lfo_shapes.proofs.sampled.Goals as goal

pub floor-cycle-requires : goal.floor-cycle-requires
unfolding sampled_of index_of
floor-cycle-requires c = search rules

pub floor-requires : goal.floor-requires
unfolding sampled_of index_of
floor-requires c = search rules

pub sample-requires : goal.sample-requires
unfolding sampled_of index_of
sample-requires c = search rules

pub returns : goal.returns
unfolding sampled_of index_of
returns c = simp (c.sample.ensures, c.floor.ensures, c.floor-cycle.ensures)
