-- `put_foot` writes `foot_text`: its parts, one after the other. Assumes nothing.
use Rattle.text.proofs.Writing.{◌⨾◌}
use Rattle.page_head.specs.Head.{foot_text}
use Rattle.page_head.proofs.put_foot.Goals as goal

pub returns : goal.returns
unfolding foot_text
returns c =
    c.put.ensures ⨾
    c.put_file.ensures ⨾
    c.put-2.ensures
