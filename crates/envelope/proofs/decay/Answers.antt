-- `decay` is `decay_of`. Assumes nothing.
use Rattle.envelope.specs.Formula.{decay_of}
use borrow.Author.Rules.{rules}
use Rattle.envelope.proofs.decay.Goals as goal

pub divide-requires : goal.divide-requires
unfolding decay_of
divide-requires c = search rules

pub bent-u-requires : goal.bent-u-requires
unfolding decay_of
bent-u-requires c = search rules

pub returns : goal.returns
unfolding decay_of
returns c = simp (c.bent-u.ensures, c.divide.ensures)
