-- `put_counts` puts `counts_text`. Assumes nothing.
use Rattle.text.proofs.Writing.{◌⨾◌}
use Rattle.comparison.specs.Differences.{counts_text}
use Rattle.comparison.proofs.put_counts.Goals as goal

pub returns : goal.returns
unfolding counts_text
returns c =
    simp (← c.count_codes.ensures.0, ← c.count_gate.ensures.0, ← c.count_undrawn.ensures.0)
    (c.put_decimal.ensures ⨾
    c.put.ensures ⨾
    c.put_decimal-2.ensures ⨾
    c.put-2.ensures)
