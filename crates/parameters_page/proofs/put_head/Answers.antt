-- `put_head` puts `head_text`: its parts, one after the other. Assumes nothing.
use Rattle.text.proofs.Writing.{◌⨾◌}
use Rattle.parameters_page.specs.ParametersPage.{head_text}
use Rattle.parameters_page.proofs.put_head.Goals as goal

pub returns : goal.returns
unfolding head_text
returns c =
    c.put.ensures ⨾
    c.put_name.ensures ⨾
    c.put-2.ensures ⨾
    c.put_name-2.ensures ⨾
    c.put-3.ensures
