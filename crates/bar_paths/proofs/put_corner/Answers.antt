-- `put_corner` writes `corner_text`: its parts, one after the other. Assumes nothing.
use Rattle.text.proofs.Writing.{◌⨾◌}
use Rattle.bar_paths.specs.Paths.{corner_text}
use Rattle.bar_paths.proofs.put_corner.Goals as goal

pub returns : goal.returns
unfolding corner_text
returns c =
    rw c.nearest.ensures.0 at (c.put.ensures ⨾
    c.put_decimal.ensures)
