-- `push` is `pushed`. Assumes nothing.
use borrow.Author.Tests.{lt-ltb, le-ltb}
use Rattle.marks.specs.Marks.{pushed}
use Rattle.marks.proofs.push.Goals as goal

pub returns-then-n-lt-MAX_MARKS : goal.returns-then-n-lt-MAX_MARKS
unfolding pushed
returns-then-n-lt-MAX_MARKS c = simp (lt-ltb _ _ c.if-n-lt-MAX_MARKS.true)

pub returns : goal.returns
unfolding pushed
returns c = simp (le-ltb _ _ c.if-n-lt-MAX_MARKS.false)
