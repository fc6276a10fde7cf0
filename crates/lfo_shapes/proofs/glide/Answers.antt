-- `glide` is `glide_of`. Assumes nothing.
use Rattle.lfo_shapes.specs.Formula.{glide_of}
use borrow.Author.Rules.{rules}
use Rattle.lfo_shapes.proofs.glide.Goals as goal

pub sampled-previous-requires : goal.sampled-previous-requires
unfolding glide_of
sampled-previous-requires c = search rules

pub sampled-requires : goal.sampled-requires
unfolding glide_of
sampled-requires c = search rules

pub fract-requires : goal.fract-requires
unfolding glide_of
fract-requires c = search rules

pub returns : goal.returns
unfolding glide_of
returns c = simp (c.fract.ensures, c.sampled.ensures, c.sampled-previous.ensures)
