-- `lfo_height` is `lfo_height_of`: with no slew the shape itself, else the walk. Assumes nothing.
use Rattle.lfo.specs.Formula.{lfo_height_of}
use borrow.Author.Rules.{rules}
use Rattle.lfo.proofs.lfo_height.Goals as goal

pub unslewed_height-requires : goal.unslewed_height-requires
unfolding lfo_height_of
unslewed_height-requires c = search rules

pub returns-then-lfo : goal.returns-then-lfo
unfolding lfo_height_of
returns-then-lfo c = simp (c.if-lfo.true, c.unslewed_height.ensures)

pub slewed_height-requires : goal.slewed_height-requires
unfolding lfo_height_of
slewed_height-requires c = search rules

pub returns : goal.returns
unfolding lfo_height_of
returns c = simp (c.if-lfo.false, c.slewed_height.ensures)
