-- `oscillator_marks` stores `oscillator_marks`. Assumes nothing.
use Rattle.marks.specs.Marks.{oscillator_marks, pulse_marks}
use Rattle.marks.proofs.Stored.{push_list}
use Rattle.marks.proofs.oscillator_marks.Goals as goal

pub returns : goal.returns
unfolding oscillator_marks
returns c = push_list (pulse_marks c.args.o) _ c.pulse_marks.ensures c.cycles.ensures
