-- `past_bar` passes the first bar, as its definition does. The loop's invariant: no bar stands before i. Assumes nothing.
use mathlib.Core.Path.{◌≡◌}
use lib.ListN.{drop}
use Rattle.words.specs.Words.{past_bar}
use Rattle.words.proofs.past_bar.Given as goal

abbrev pub invariant-loop-i : goal.invariant-loop-i
invariant-loop-i l = past_bar l.words l.words ≡ past_bar l.words (drop l.i l.words)
