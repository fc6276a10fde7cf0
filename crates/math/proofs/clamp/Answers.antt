-- `clamp` is `clamp_of`. Assumes nothing.
use Rattle.math.specs.Formulas.{clamp_of}
use Rattle.math.proofs.clamp.Goals as goal

pub returns-then-x-low : goal.returns-then-x-low
unfolding clamp_of
returns-then-x-low c = simp c.if-x-low.true

pub returns-then-high-x : goal.returns-then-high-x
unfolding clamp_of
returns-then-high-x c = simp (c.if-x-low.false, c.if-high-x.true)

pub returns : goal.returns
unfolding clamp_of
returns c = simp (c.if-x-low.false, c.if-high-x.false)
