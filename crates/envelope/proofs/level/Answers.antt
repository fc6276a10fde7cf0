-- `level` is `envelope_level_of`. Assumes nothing.
use Rattle.envelope.specs.Formula.{envelope_level_of}
use Rattle.envelope.proofs.level.Goals as goal

pub returns-then-t-envelope : goal.returns-then-t-envelope
unfolding envelope_level_of
returns-then-t-envelope c = simp (c.if-t-envelope.true, c.attack.ensures)

pub returns-then-t-envelope-2 : goal.returns-then-t-envelope-2
unfolding envelope_level_of
returns-then-t-envelope-2 c = simp (c.if-t-envelope.false, c.if-t-envelope-2.true, c.decay.ensures)

pub returns-then-t-envelope-3 : goal.returns-then-t-envelope-3
unfolding envelope_level_of
returns-then-t-envelope-3 c = simp (c.if-t-envelope.false, c.if-t-envelope-2.false, c.if-t-envelope-3.true, c.sustain.ensures)

pub returns : goal.returns
unfolding envelope_level_of
returns c = simp (c.if-t-envelope.false, c.if-t-envelope-2.false, c.if-t-envelope-3.false, c.release.ensures)
