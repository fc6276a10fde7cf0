-- `log` is `log_of`. Assumes nothing.
use borrow.Author.Rules.{rules}
use Rattle.filter.specs.Formula.{log_of}
use Rattle.filter.proofs.log.Goals as goal

pub returns-then-squared : goal.returns-then-squared
unfolding log_of
returns-then-squared c = simp c.if-squared.true

pub exp2-requires : goal.exp2-requires
unfolding log_of
exp2-requires c = search rules

pub log2-requires : goal.log2-requires
unfolding log_of
log2-requires c = search rules

pub returns : goal.returns
unfolding log_of
returns c = simp (c.if-squared.false, c.exp2.ensures, c.log2.ensures)
