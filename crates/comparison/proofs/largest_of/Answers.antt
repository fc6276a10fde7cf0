-- `largest_of` finds the largest difference of two shapes' strips, at the turns, which is that of their curves. Assumes nothing.
use Rattle.comparison.proofs.Known.{known_largest}
use Rattle.shape_strip.proofs.Turned.{turned_goes}
use borrow.Author.Rules.{rules}
use Rattle.comparison.proofs.largest_of.Goals as goal

pub fill_once-requires : goal.fill_once-requires
fill_once-requires c = record { shape_forward = rw c.turned.ensures (turned_goes _ _); fits = search rules }

pub fill_once-requires-2 : goal.fill_once-requires-2
fill_once-requires-2 c = record { shape_forward = rw c.turned-2.ensures (turned_goes _ _); fits = search rules }

pub returns : goal.returns
returns c =
    rw (c.turned.ensures, c.turned-2.ensures, c.shape_at.ensures, c.shape_at-2.ensures) at
    (known_largest _ _ _ _ _ _ c.fill_once.ensures.1 c.fill_once-2.ensures.1 c.find_largest.ensures)
