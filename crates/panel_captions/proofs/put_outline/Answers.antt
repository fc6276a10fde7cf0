-- `put_outline` writes `outline_text`: its parts, one after the other. Assumes nothing.
use Rattle.text.proofs.Writing.{◌⨾◌}
use Rattle.panel_captions.specs.Captions.{outline_text}
use Rattle.panel_captions.proofs.put_outline.Goals as goal

pub returns : goal.returns
unfolding outline_text
returns c =
    c.put.ensures ⨾
    c.put_decimal.ensures ⨾
    c.put-2.ensures ⨾
    c.put_decimal-2.ensures ⨾
    c.put-3.ensures ⨾
    c.put_decimal-3.ensures ⨾
    c.put-4.ensures
