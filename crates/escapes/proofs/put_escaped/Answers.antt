-- `put_escaped` puts `escaped_of`. Assumes nothing.
use mathlib.Core.Path.{◌≡◌, refl}
use native.Mathlib.Omega.{arith}
use Prim.Native.Nat.{ℕ, ◌≤◌, ◌<◌}
use borrow.Author.Tests.{lt-ltb, le-ltb}
use Rattle.words.specs.Words.{word_of, index_of}
use Rattle.text.proofs.Writing.{puts_as}
use Rattle.escapes.specs.Escaped.{marks, entities, shown_of, escaped_of}
use Rattle.escapes.proofs.put_escaped.Goals as goal

module _ (b k : ℕ) (e : k ≡ index_of marks b) where
  by_its_entity : k < 5 → word_of entities k ≡ escaped_of b
  unfolding escaped_of
  by_its_entity h = rw (← e) (simp (lt-ltb _ _ h))

  as_it_is : 5 ≤ k → shown_of b ≡ escaped_of b
  unfolding escaped_of
  as_it_is h = rw (← e) (simp (le-ltb _ _ h))

pub returns-in-Some : goal.returns-in-Some
returns-in-Some c = puts_as (by_its_entity _ _ c.in-Some.ensures.1 c.in-Some.ensures.0) c.put_word.ensures

pub returns-in-None : goal.returns-in-None
returns-in-None c = puts_as (as_it_is _ _ refl (rw c.in-None.ensures (omega arith))) c.put_shown.ensures
