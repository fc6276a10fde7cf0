-- `oscillator_level` is `oscillator_level_of`. Assumes nothing.
use mathlib.Core.Path.{sym}
use Rattle.oscillator.specs.Formula.{oscillator_level_of}
use borrow.Author.Tests.{ne_eqb}
use Rattle.oscillator.proofs.oscillator_level.Goals as goal

pub returns-then-count-eq0 : goal.returns-then-count-eq0
unfolding oscillator_level_of
returns-then-count-eq0 c = simp (simp c.waves-count.ensures at c.if-count-eq0.true)

pub returns : goal.returns
unfolding oscillator_level_of
returns c = simp (sym c.waves-count.ensures, ne_eqb _ _ c.if-count-eq0.false, c.sum.ensures)
