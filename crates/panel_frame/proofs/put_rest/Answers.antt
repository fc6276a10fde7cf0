-- `put_rest` writes `rest_text`. Assumes nothing.
use Rattle.text.proofs.Writing.{◌⨾◌}
use Rattle.panel_frame.specs.Frame.{rest_text}
use Rattle.panel_frame.proofs.put_rest.Goals as goal

pub returns : goal.returns
unfolding rest_text
returns c =
    rw c.nearest.ensures.0 at
    (c.put.ensures ⨾
    c.put_decimal.ensures ⨾
    c.put-2.ensures)
