-- `words_from` passes k words. The loop's invariant: the word k is that many words past the rest as are left. Assumes nothing.
use mathlib.Core.Path.{◌≡◌}
use Prim.Native.Nat.{◌-◌}
use Rattle.words.specs.Words.{word_of}
use Rattle.words.proofs.words_from.Given as goal

abbrev pub invariant-loop : goal.invariant-loop
invariant-loop l = word_of l.words l.k ≡ word_of l.rest (l.k - l.counter)
