-- `sin_turns` is `sin_turns_of`. Assumes nothing.
use Rattle.sine.specs.Formula.{sine_of_cycle, sin_turns_of}
use Rattle.sine.proofs.sin_turns.Goals as goal

pub returns : goal.returns
unfolding sine_of_cycle sin_turns_of
returns c = simp (c.sine.ensures, c.quarter.ensures, c.half.ensures, c.sign.ensures, c.fract-cycle.ensures)
