-- `tap_height` is `tap_raised_of`. Assumes nothing.
use borrow.Author.Rules.{rules}
use Rattle.taps.specs.Formula.{tap_raised_of}
use Rattle.taps.proofs.Width.{between, beyond_right, beyond_left}
use Rattle.taps.proofs.tap_height.Goals as goal

pub abs-distance-requires : goal.abs-distance-requires
unfolding tap_raised_of
abs-distance-requires c = search rules

pub raised_to-requires : goal.raised_to-requires
unfolding tap_raised_of
raised_to-requires c = search rules

pub returns-then-offset-2 : goal.returns-then-offset-2
unfolding tap_raised_of
returns-then-offset-2 c = simp (c.raised_to.ensures, c.abs-distance.ensures, between _ c.if-offset.true c.if-offset-2.true)

pub returns-else-offset-2 : goal.returns-else-offset-2
unfolding tap_raised_of
returns-else-offset-2 c = simp (beyond_left _ c.if-offset-2.false)

pub returns-else-offset : goal.returns-else-offset
unfolding tap_raised_of
returns-else-offset c = simp (beyond_right _ c.if-offset.false)
