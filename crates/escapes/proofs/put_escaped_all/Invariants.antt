-- `put_escaped_all` puts `escaped_all`. The loop's invariant: the bytes from the index on are left to put. Assumes nothing.
use lib.ListN.{drop}
use Rattle.escapes.specs.Escaped.{escaped_all}
use Rattle.text.proofs.Writing.{Left}
use Rattle.escapes.proofs.put_escaped_all.Given as goal

abbrev pub invariant-loop-b : goal.invariant-loop-b
invariant-loop-b l = Left l.initial.out (escaped_all l.text) l.out (escaped_all (drop l.b-index l.text))
