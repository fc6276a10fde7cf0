-- `sum` is `sum_of`. Assumes nothing.
use Rattle.oscillator.specs.Formula.{sum_of}
use borrow.Author.Rules.{rules}
use Rattle.oscillator.proofs.sum.Goals as goal

pub saw-requires : goal.saw-requires
unfolding sum_of
saw-requires c = search rules

pub added-saws-requires : goal.added-saws-requires
unfolding sum_of
added-saws-requires c = search rules

pub pulse-requires : goal.pulse-requires
unfolding sum_of
pulse-requires c = search rules

pub added-requires : goal.added-requires
unfolding sum_of
added-requires c = search rules

pub returns : goal.returns
unfolding sum_of
returns c = simp (c.added.ensures, c.pulse.ensures, c.added-saws.ensures, c.saw.ensures)
