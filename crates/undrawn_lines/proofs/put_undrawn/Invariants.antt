-- `put_undrawn` puts `undrawn_text`. The loop's invariant: the lines of the first bytes are put. Assumes nothing.
use Rattle.text.specs.Text.{Puts}
use Rattle.code_bytes.specs.Bytes.{byte_at}
use Rattle.undrawn_lines.specs.Lines.{undrawn_text}
use Rattle.undrawn_lines.proofs.put_undrawn.Given as goal

abbrev pub invariant-loop-n : goal.invariant-loop-n
invariant-loop-n l = Puts l.initial.out (undrawn_text l.n (byte_at l.blocks.old.now) (byte_at l.blocks.new.now)) l.out
