-- `put_shown_all` puts `shown_all`. The loop's invariant: the bytes from the index on are left to put. Assumes nothing.
use lib.ListN.{drop}
use Rattle.escapes.specs.Escaped.{shown_all}
use Rattle.text.proofs.Writing.{Left}
use Rattle.escapes.proofs.put_shown_all.Given as goal

abbrev pub invariant-loop-byte : goal.invariant-loop-byte
invariant-loop-byte l = Left l.initial.out (shown_all l.text) l.out (shown_all (drop l.byte-index l.text))
