-- `put_byte` puts one byte. Assumes nothing.
use mathlib.Core.Path.{refl}
use borrow.Author.Tests.{lt-ltb, le-ltb}
use Rattle.text.specs.Text.{put_byte, put_all}
use Rattle.text.proofs.put_byte.Goals as goal

pub returns-then-at-out : goal.returns-then-at-out
unfolding put_byte put_all
returns-then-at-out c = record { page = simp (lt-ltb _ _ c.if-at-out.true); same = refl }

pub returns-else-at-out : goal.returns-else-at-out
unfolding put_byte put_all
returns-else-at-out c = record { page = simp (le-ltb _ _ c.if-at-out.false); same = refl }
