-- `pulse` is `pulse_of`. Assumes nothing.
use Rattle.oscillator.specs.Formula.{pulse_of}
use Rattle.oscillator.proofs.pulse.Goals as goal

pub returns-then-t-width : goal.returns-then-t-width
unfolding pulse_of
returns-then-t-width c = simp c.if-t-width.true

pub returns : goal.returns
unfolding pulse_of
returns c = simp c.if-t-width.false
