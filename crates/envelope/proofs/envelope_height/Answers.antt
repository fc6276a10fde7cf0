-- `envelope_height` is `envelope_height_of`. Assumes nothing.
use Rattle.envelope.specs.Formula.{envelope_height_of}
use borrow.Author.Rules.{rules}
use Rattle.envelope.proofs.envelope_height.Goals as goal

pub position-requires : goal.position-requires
unfolding envelope_height_of
position-requires c = search rules

pub level-requires : goal.level-requires
unfolding envelope_height_of
level-requires c = search rules

pub drawn-requires : goal.drawn-requires
unfolding envelope_height_of
drawn-requires c = search rules

pub returns : goal.returns
unfolding envelope_height_of
returns c = simp (c.drawn.ensures, c.level.ensures, c.position.ensures)
