-- `put_label` writes `label_text`: its parts, one after the other. Assumes nothing.
use Rattle.text.proofs.Writing.{◌⨾◌}
use Rattle.panel_captions.specs.Captions.{label_text}
use Rattle.panel_captions.proofs.put_label.Goals as goal

pub returns : goal.returns
unfolding label_text
returns c =
    c.put.ensures ⨾
    c.put_decimal.ensures ⨾
    c.put-2.ensures ⨾
    c.put_name.ensures ⨾
    c.put-3.ensures
