-- `put_subtitle` writes `subtitle_text`. Assumes nothing.
use Rattle.text.proofs.Writing.{◌⨾◌}
use Rattle.panel_labels.specs.Labels.{subtitle_text}
use Rattle.panel_labels.proofs.put_subtitle.Goals as goal

pub returns : goal.returns
unfolding subtitle_text
returns c =
    c.put.ensures ⨾
    c.put_scale.ensures ⨾
    c.put_edge.ensures
