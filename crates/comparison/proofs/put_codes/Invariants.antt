-- `put_codes` puts `codes_text`. The loop's invariant: the lines of the first codes are put. Assumes nothing.
use Rattle.text.specs.Text.{Puts}
use Rattle.code_bytes.specs.Bytes.{byte_at}
use Rattle.comparison.specs.Differences.{codes_text}
use Rattle.comparison.proofs.put_codes.Given as goal

abbrev pub invariant-loop-number : goal.invariant-loop-number
invariant-loop-number l = Puts l.initial.out (codes_text l.sampled l.number (byte_at l.blocks.old.now) (byte_at l.blocks.new.now)) l.out
