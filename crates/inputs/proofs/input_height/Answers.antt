-- `input_height` is `input_height`. Assumes nothing.
use Rattle.inputs.specs.Inputs.{block_of, input_height}
use Rattle.inputs.proofs.input_height.Goals as goal

pub returns : goal.returns
unfolding input_height block_of
returns c = simp (c.of_answer.ensures, c.height.ensures.equation, c.float_of.ensures, c.put_input.ensures, c.zeros-program.ensures)
