-- `upper` is `upper_of`. Assumes nothing.
use borrow.Author.Tests.{lt-ltb, le-ltb}
use Rattle.escapes.specs.Escaped.{upper_of}
use borrow.Author.Rules.{rules}
use Rattle.escapes.proofs.upper.Goals as goal

pub overflow_add-result : goal.overflow_add-result
unfolding upper_of
overflow_add-result c = search rules

pub returns-then-d-lt10 : goal.returns-then-d-lt10
unfolding upper_of
returns-then-d-lt10 c = simp (lt-ltb _ _ c.if-d-lt10.true)

pub overflow_add-result-2 : goal.overflow_add-result-2
unfolding upper_of
overflow_add-result-2 c = search rules

pub returns : goal.returns
unfolding upper_of
returns c = simp (le-ltb _ _ c.if-d-lt10.false)
