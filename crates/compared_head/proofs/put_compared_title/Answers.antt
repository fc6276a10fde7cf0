-- `put_compared_title` writes `compared_title`: its parts, one after the other. Assumes nothing.
use Rattle.text.proofs.Writing.{◌⨾◌}
use Rattle.compared_head.specs.Compared.{compared_title}
use Rattle.compared_head.proofs.put_compared_title.Goals as goal

pub returns : goal.returns
unfolding compared_title
returns c =
    c.put.ensures ⨾
    c.put_name.ensures ⨾
    c.put-2.ensures ⨾
    c.put_name-2.ensures ⨾
    c.put-3.ensures
