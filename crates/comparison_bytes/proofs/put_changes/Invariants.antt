-- `put_changes` puts `changes_text`. The loop's invariant: the lines of the bytes that are left are left to put. Assumes nothing.
use lib.ListN.{drop}
use Rattle.text.proofs.Writing.{Left}
use Rattle.code_bytes.specs.Bytes.{byte_at}
use Rattle.comparison_bytes.specs.Changes.{changes_text}
use Rattle.comparison_bytes.proofs.put_changes.Given as goal

abbrev pub invariant-loop-n : goal.invariant-loop-n
invariant-loop-n l =
    Left l.initial.out (changes_text l.bytes (byte_at l.old) (byte_at l.new)) l.out (changes_text (drop l.n-index l.bytes) (byte_at l.old) (byte_at l.new))
