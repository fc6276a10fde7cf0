-- `attack` is `attack_of`. Assumes nothing.
use Rattle.envelope.specs.Formula.{attack_of}
use borrow.Author.Rules.{rules}
use Rattle.envelope.proofs.attack.Goals as goal

pub divide-requires : goal.divide-requires
unfolding attack_of
divide-requires c = search rules

pub bent-requires : goal.bent-requires
unfolding attack_of
bent-requires c = search rules

pub returns : goal.returns
unfolding attack_of
returns c = simp (c.bent.ensures, c.divide.ensures)
