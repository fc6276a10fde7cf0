-- `wrap` is `wrap_of`. Assumes nothing.
use Rattle.lfo_shapes.specs.Formula.{wrap_of}
use borrow.Author.Rules.{rules}
use Rattle.lfo_shapes.proofs.wrap.Goals as goal

pub fract-within-requires : goal.fract-within-requires
unfolding wrap_of
fract-within-requires c = search rules

pub returns-then-within : goal.returns-then-within
unfolding wrap_of
returns-then-within c = simp (c.if-phase.true, simp c.fract-within.ensures at c.if-within.true)

pub returns-else-within : goal.returns-else-within
unfolding wrap_of
returns-else-within c = simp (c.if-phase.true, simp c.fract-within.ensures at c.if-within.false, c.fract-within.ensures)

pub returns-else-phase : goal.returns-else-phase
unfolding wrap_of
returns-else-phase c = simp (c.if-phase.false, c.fract-within.ensures)
