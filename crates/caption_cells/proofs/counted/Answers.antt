-- `counted` is `before_of`. Assumes nothing.
use borrow.Author.Tests.{lt-ltb, le-ltb}
use borrow.Author.Rules.{rules}
use Rattle.caption_cells.proofs.counted.Goals as goal

pub returns-then-caption-k : goal.returns-then-caption-k
returns-then-caption-k c = (simp (lt-ltb _ _ c.if-caption-k.true), search rules)

pub returns : goal.returns
returns c = (simp (le-ltb _ _ c.if-caption-k.false), search rules)
