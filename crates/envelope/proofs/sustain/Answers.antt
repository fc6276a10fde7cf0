-- `sustain` is `sustain_of`. Assumes nothing.
use Rattle.envelope.specs.Formula.{sustain_of}
use borrow.Author.Rules.{rules}
use Rattle.envelope.proofs.sustain.Goals as goal

pub divide-u-requires : goal.divide-u-requires
unfolding sustain_of
divide-u-requires c = search rules

pub returns : goal.returns
unfolding sustain_of
returns c = simp c.divide-u.ensures
