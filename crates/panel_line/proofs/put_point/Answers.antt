-- `put_point` writes `point_text`. Assumes nothing.
use Rattle.text.proofs.Writing.{◌⨾◌}
use Rattle.panel_line.specs.Line.{point_text}
use Rattle.panel_line.proofs.put_point.Goals as goal

pub returns : goal.returns
unfolding point_text
returns c =
    rw c.nearest.ensures.0 at
    (c.put_decimal.ensures ⨾
    c.put.ensures ⨾
    c.put_decimal-2.ensures ⨾
    c.put-2.ensures)
