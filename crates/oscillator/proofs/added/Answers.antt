-- `added` is `added_of`. Assumes nothing.
use Rattle.oscillator.specs.Formula.{added_of}
use Rattle.oscillator.proofs.added.Goals as goal

pub returns-then-on : goal.returns-then-on
unfolding added_of
returns-then-on c = simp c.if-on.true

pub returns : goal.returns
unfolding added_of
returns c = simp c.if-on.false
