-- `of_shape` meets its contract. Assumes nothing.
use Rattle.generator.specs.Generator.{generator_of}
use borrow.Author.Rules.{rules}
use Rattle.builders.proofs.of_shape.Goals as goal

pub scale_of-requires : goal.scale_of-requires
unfolding generator_of
scale_of-requires c = search rules

pub returns : goal.returns
unfolding generator_of
returns c = simp c.scale_of.ensures
