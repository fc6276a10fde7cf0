-- `put` puts its text. The loop's invariant: the first bytes of the text are put. Assumes nothing.
use lib.ListN.{take}
use Rattle.text.specs.Text.{Puts}
use Rattle.text.proofs.put.Given as goal

abbrev pub invariant-loop-b : goal.invariant-loop-b
invariant-loop-b l = Puts l.initial.out (take l.b-index l.text) l.out
