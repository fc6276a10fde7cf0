-- `octaves` is `octaves_of`. Assumes nothing.
use borrow.Author.Rules.{rules}
use Rattle.filter.specs.Formula.{octaves_of}
use Rattle.filter.proofs.octaves.Goals as goal

pub mirror-requires : goal.mirror-requires
unfolding octaves_of
mirror-requires c = search rules

pub returns : goal.returns
unfolding octaves_of
returns c = simp c.mirror.ensures
