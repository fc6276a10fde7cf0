-- `put_rows` puts `rows_text`. The loop's invariant: the rows of the first bytes are put. Assumes nothing.
use Rattle.text.specs.Text.{Puts}
use Rattle.code_bytes.specs.Bytes.{byte_at}
use Rattle.parameter_rows.specs.Rows.{rows_text}
use Rattle.parameter_rows.proofs.put_rows.Given as goal

abbrev pub invariant-loop-n : goal.invariant-loop-n
invariant-loop-n l = Puts l.initial.out (rows_text l.n (byte_at l.block)) l.out
