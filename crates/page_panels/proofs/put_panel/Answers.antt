-- `put_panel` writes `code_panel` of a known code, of its shapes at the turns. Assumes nothing.
use Rattle.shape_strip.proofs.Turned.{turned_goes}
use Rattle.text.proofs.Writing.{◌⨾◌}
use Rattle.page_panels.specs.Panels.{code_panel}
use Rattle.page_panels.proofs.put_panel.Goals as goal

pub put_older-requires : goal.put_older-requires
put_older-requires c = (rw c.turned-older.ensures (turned_goes _ _), rw c.turned-shape.ensures (turned_goes _ _))

pub put_drawn-requires : goal.put_drawn-requires
put_drawn-requires c = rw c.turned-shape.ensures (turned_goes _ _)

pub returns : goal.returns
unfolding code_panel
returns c =
    rw (c.turned-older.ensures, c.turned-shape.ensures, c.shape_at.ensures, c.shape_at-2.ensures) at
    (c.put_place.ensures ⨾
    c.put_older.ensures ⨾
    c.put_drawn.ensures ⨾
    c.end_panel.ensures)
