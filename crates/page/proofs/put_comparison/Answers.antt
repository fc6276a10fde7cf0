-- `put_comparison` writes `comparison_of`: its parts, one after the other. Assumes nothing.
use Rattle.text.proofs.Writing.{◌⨾◌}
use Rattle.page.specs.Page.{comparison_of}
use Rattle.page.proofs.put_comparison.Goals as goal

pub returns : goal.returns
unfolding comparison_of
returns c =
    c.put_style.ensures ⨾
    c.put_compared_head.ensures ⨾
    c.put_body.ensures
