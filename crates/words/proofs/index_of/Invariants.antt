-- `index_of` is the place of the definition, or none where that is the length. The loop's invariant: the place is i past that among the bytes from i on. Assumes nothing.
use mathlib.Core.Path.{◌≡◌}
use Prim.Native.Nat.{◌+◌}
use lib.ListN.{drop}
use Rattle.words.specs.Words.{index_of}
use Rattle.words.proofs.index_of.Given as goal

abbrev pub invariant-loop-i : goal.invariant-loop-i
invariant-loop-i l = index_of l.list l.b ≡ l.i + index_of (drop l.i l.list) l.b
