-- `copy_gates` writes both arrays and counts; beside a refusal there is nothing to write. Assumes nothing.
use Rattle.lists.specs.Written.{written}
use Rattle.gates.specs.Gates.{gates_of}
use Rattle.gate_numbers.specs.Results.{gates_given}
use Rattle.gate_numbers.proofs.copy_gates.Goals as goal

pub returns-in-Ok : goal.returns-in-Ok
unfolding gates_given
returns-in-Ok c =
    let found = c.in-Ok.is in
    record { result = simp (found, c.gates_used.ensures); start = simp (found, c.copy_gate_starts.ensures); end = simp (found, c.copy_gate_ends.ensures) }

pub returns-in-Err : goal.returns-in-Err
unfolding gates_given gates_of written
returns-in-Err c = let found = c.in-Err.is in record { result = simp (found, c.refusal_number.ensures); start = simp found; end = simp found }
