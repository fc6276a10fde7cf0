-- `put_page` writes `parameters_of`: its parts, one after the other. Assumes nothing.
use Rattle.text.proofs.Writing.{◌⨾◌}
use Rattle.parameters_page.specs.ParametersPage.{parameters_of}
use Rattle.parameters_page.proofs.put_page.Goals as goal

pub returns : goal.returns
unfolding parameters_of
returns c =
    c.put_style.ensures ⨾
    c.put_head.ensures ⨾
    c.put_rows.ensures ⨾
    c.put_foot.ensures
