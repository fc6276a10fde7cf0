-- `row` is `row_of`, an arm for each kind. Assumes nothing.
use Rattle.panel_marks.proofs.row.Goals as goal

pub returns-in-Cycle : goal.returns-in-Cycle
returns-in-Cycle c = simp c.in-Cycle.is c.cycle_row.ensures
