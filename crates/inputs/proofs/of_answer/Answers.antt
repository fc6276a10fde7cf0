-- `of_answer` is `height_given`. Assumes nothing.
use lib.Ieee.{div, of_bits}
use Rattle.inputs.specs.Inputs.{height_given}
use Rattle.inputs.proofs.of_answer.Goals as goal

pub returns-in-Ok : goal.returns-in-Ok
unfolding div of_bits height_given
returns-in-Ok c = simp c.in-Ok.is

pub returns-in-Err : goal.returns-in-Err
unfolding div of_bits height_given
returns-in-Err c = simp c.in-Err.is
