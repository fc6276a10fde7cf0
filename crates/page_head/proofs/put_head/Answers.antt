-- `put_head` writes `head_text`: its parts, one after the other. Assumes nothing.
use Rattle.text.proofs.Writing.{◌⨾◌}
use Rattle.page_head.specs.Head.{head_text}
use Rattle.page_head.proofs.put_head.Goals as goal

pub returns : goal.returns
unfolding head_text
returns c =
    c.put.ensures ⨾
    c.put_name.ensures ⨾
    c.put-2.ensures ⨾
    c.put_name-2.ensures ⨾
    c.put-3.ensures
