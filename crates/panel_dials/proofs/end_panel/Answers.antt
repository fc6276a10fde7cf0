-- `end_panel` writes `panel_rest`: its parts, one after the other. Assumes nothing.
use Rattle.text.proofs.Writing.{◌⨾◌}
use Rattle.panel_dials.specs.Rest.{panel_rest}
use Rattle.panel_dials.proofs.end_panel.Goals as goal

pub returns : goal.returns
unfolding panel_rest
returns c =
    c.put_title.ensures ⨾
    c.put_frame.ensures ⨾
    c.put_dials.ensures ⨾
    c.put_end.ensures
