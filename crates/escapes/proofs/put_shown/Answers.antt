-- `put_shown` puts `shown_of`. Assumes nothing.
use borrow.Author.Tests.{lt-ltb, le-ltb}
use Rattle.escapes.specs.Escaped.{shown_of}
use Rattle.escapes.proofs.put_shown.Goals as goal

pub returns-then-b-lt32 : goal.returns-then-b-lt32
unfolding shown_of
returns-then-b-lt32 c = simp (lt-ltb _ _ c.if-b-lt32.true) c.put_hex_byte.ensures

pub returns-then-b-gt126 : goal.returns-then-b-gt126
unfolding shown_of
returns-then-b-gt126 c = simp (le-ltb _ _ c.if-b-lt32.false, lt-ltb _ _ c.if-b-gt126.true) c.put_hex_byte-then-b-gt126.ensures

pub returns : goal.returns
unfolding shown_of
returns c = simp (le-ltb _ _ c.if-b-lt32.false, le-ltb _ _ c.if-b-gt126.false) c.put_byte.ensures
