-- `is_drawn` is `drawn`. The loop's invariant: none of the codes below k reads the byte. Assumes nothing.
use mathlib.Core.Path.{◌≡◌}
use mathlib.Core.Bool.{false}
use Rattle.drawn_bytes.specs.Drawn.{drawn_by}
use Rattle.drawn_bytes.proofs.is_drawn.Given as goal

abbrev pub invariant-loop-k : goal.invariant-loop-k
invariant-loop-k l = drawn_by l.k l.n ≡ false
