-- `put_body` writes `body_text`: its parts, one after the other. Assumes nothing.
use Rattle.text.proofs.Writing.{◌⨾◌}
use Rattle.page.specs.Page.{body_text}
use Rattle.page.proofs.put_body.Goals as goal

pub returns : goal.returns
unfolding body_text
returns c =
    c.put_panels.ensures ⨾
    c.end_page.ensures
