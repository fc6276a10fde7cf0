-- `cell_end` is `cell_end`. Assumes nothing.
use native.Mathlib.Nat.{le_of_lt}
use native.Mathlib.Omega.{arith}
use Rattle.caption_cells.proofs.Edges.{no_cell, cell_to_start, letter_cell}
use Rattle.caption_cells.proofs.cell_end.Goals as goal

pub returns-then-samples_before : goal.returns-then-samples_before
returns-then-samples_before c = (no_cell _ _ _ c.samples_before-2.ensures.0 c.samples_before.ensures.0 c.if-samples_before.true, omega arith)

pub returns-then-left-start : goal.returns-then-left-start
returns-then-left-start c =
    (cell_to_start _ _ _ c.samples_before-2.ensures.0 c.samples_before.ensures.0 c.if-samples_before.false c.start_of-start.ensures.0 (le_of_lt c.if-left-start.true), omega (arith, c.start_of-start.ensures.1))

pub returns : goal.returns
returns c =
    (letter_cell _ _ _ c.samples_before-2.ensures.0 c.samples_before.ensures.0 c.if-samples_before.false c.start_of-start.ensures.0 c.if-left-start.false, omega arith)
