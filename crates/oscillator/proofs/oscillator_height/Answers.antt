-- `oscillator_height` is `oscillator_height_of`. Assumes nothing.
use Rattle.oscillator.specs.Formula.{oscillator_height_of}
use borrow.Author.Rules.{rules}
use Rattle.oscillator.proofs.oscillator_height.Goals as goal

pub position-requires : goal.position-requires
unfolding oscillator_height_of
position-requires c = search rules

pub oscillator_level-requires : goal.oscillator_level-requires
unfolding oscillator_height_of
oscillator_level-requires c = search rules

pub drawn-requires : goal.drawn-requires
unfolding oscillator_height_of
drawn-requires c = search rules

pub returns : goal.returns
unfolding oscillator_height_of
returns c = simp (c.drawn.ensures, c.oscillator_level.ensures, c.position.ensures)
