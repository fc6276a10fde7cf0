-- `put_foot` puts `foot_text`: its parts, one after the other. Assumes nothing.
use Rattle.text.proofs.Writing.{◌⨾◌}
use Rattle.parameters_page.specs.ParametersPage.{foot_text}
use Rattle.parameters_page.proofs.put_foot.Goals as goal

pub returns : goal.returns
unfolding foot_text
returns c =
    c.put.ensures ⨾
    c.put_file.ensures ⨾
    c.put-2.ensures
