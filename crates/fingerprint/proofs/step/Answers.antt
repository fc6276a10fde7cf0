-- `step` is `step_of`. Assumes nothing.
use borrow.Author.Tests.{eq-eqb, ne_eqb}
use Rattle.fingerprint.specs.Crc32.{step_of}
use Rattle.fingerprint.proofs.step.Goals as goal

pub returns-then-r-eq1 : goal.returns-then-r-eq1
unfolding step_of
returns-then-r-eq1 c = simp (eq-eqb _ _ c.if-r-eq1.true) c.xor.ensures

pub returns : goal.returns
unfolding step_of
returns c = simp (ne_eqb _ _ c.if-r-eq1.false)
