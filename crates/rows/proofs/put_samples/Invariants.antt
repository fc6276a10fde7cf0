-- `put_samples` puts a row for each sample. The loop's invariant: those of the first i are written. Assumes nothing.
use Rattle.text.specs.Text.{Puts}
use Rattle.rows.specs.Rows.{some_rows}
use Rattle.rows.proofs.put_samples.Given as goal

abbrev pub invariant-loop-i : goal.invariant-loop-i
invariant-loop-i l = Puts l.initial.out (some_rows l.heights l.captions l.i) l.out
