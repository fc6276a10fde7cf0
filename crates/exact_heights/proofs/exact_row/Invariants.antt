-- `exact_row` is `exact_row`. The loop's invariant: what is noted, with the bytes from b on, comes to the row of the list. Assumes nothing.
use mathlib.Core.Path.{◌≡◌}
use lib.ListN.{drop}
use Rattle.exact_heights.specs.Exact.{exact_row}
use Rattle.exact_heights.proofs.Bytes.{row_after}
use Rattle.exact_heights.proofs.exact_row.Given as goal

abbrev pub invariant-loop-b : goal.invariant-loop-b
invariant-loop-b l = row_after l.reading (drop l.b-index l.list) ≡ exact_row l.list
