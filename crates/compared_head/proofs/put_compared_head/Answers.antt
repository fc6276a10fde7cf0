-- `put_compared_head` writes `compared_head`: its parts, one after the other. Assumes nothing.
use Rattle.text.proofs.Writing.{◌⨾◌}
use Rattle.compared_head.specs.Compared.{compared_head}
use Rattle.compared_head.proofs.put_compared_head.Goals as goal

pub returns : goal.returns
unfolding compared_head
returns c =
    c.put_compared_title.ensures ⨾
    c.put_side.ensures ⨾
    c.put_side-2.ensures ⨾
    c.put.ensures
