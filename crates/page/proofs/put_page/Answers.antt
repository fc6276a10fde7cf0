-- `put_page` writes `page_of`: its parts, one after the other. Assumes nothing.
use Rattle.text.proofs.Writing.{◌⨾◌}
use Rattle.page.specs.Page.{page_of}
use Rattle.page.proofs.put_page.Goals as goal

pub returns : goal.returns
unfolding page_of
returns c =
    c.put_style.ensures ⨾
    c.put_head.ensures ⨾
    c.put_body.ensures
