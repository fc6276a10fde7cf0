-- `put_side` writes `side_text`: its parts, one after the other. Assumes nothing.
use Rattle.text.proofs.Writing.{◌⨾◌}
use Rattle.compared_head.specs.Compared.{side_text}
use Rattle.compared_head.proofs.put_side.Goals as goal

pub returns : goal.returns
unfolding side_text
returns c =
    c.put.ensures ⨾
    c.put_name.ensures ⨾
    c.put-2.ensures ⨾
    c.put_file.ensures ⨾
    c.put-3.ensures
