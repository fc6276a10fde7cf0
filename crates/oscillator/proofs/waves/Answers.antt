-- `waves` is `waves_of`. Assumes nothing.
use Rattle.oscillator.specs.Formula.{waves_of}
use Rattle.oscillator.proofs.waves.Goals as goal

pub returns-then-oscillator-2 : goal.returns-then-oscillator-2
unfolding waves_of
returns-then-oscillator-2 c = simp (c.if-oscillator.true, c.if-oscillator-2.true)

pub returns-then-oscillator : goal.returns-then-oscillator
unfolding waves_of
returns-then-oscillator c = simp (c.if-oscillator.true, c.if-oscillator-2.false)

pub returns-then-oscillator-3 : goal.returns-then-oscillator-3
unfolding waves_of
returns-then-oscillator-3 c = simp (c.if-oscillator.false, c.if-oscillator-3.true)

pub returns : goal.returns
unfolding waves_of
returns c = simp (c.if-oscillator.false, c.if-oscillator-3.false)
