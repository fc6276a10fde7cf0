-- `put_place` writes `place_text`. Assumes nothing.
use Rattle.text.proofs.Writing.{◌⨾◌}
use Rattle.panel_frame.specs.Frame.{place_text}
use Rattle.panel_frame.proofs.put_place.Goals as goal

pub returns : goal.returns
unfolding place_text
returns c =
    c.put.ensures ⨾
    c.put_decimal.ensures ⨾
    c.put-2.ensures ⨾
    c.put_decimal-2.ensures ⨾
    c.put-3.ensures
