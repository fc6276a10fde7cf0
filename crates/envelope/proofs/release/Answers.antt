-- `release` is `release_of`. Assumes nothing.
use Rattle.envelope.specs.Formula.{release_of}
use borrow.Author.Rules.{rules}
use Rattle.envelope.proofs.release.Goals as goal

pub divide-requires : goal.divide-requires
unfolding release_of
divide-requires c = search rules

pub bent-u-requires : goal.bent-u-requires
unfolding release_of
bent-u-requires c = search rules

pub returns : goal.returns
unfolding release_of
returns c = simp (c.bent-u.ensures, c.divide.ensures)
