-- `put_names` puts `names_text`: its parts, one after the other. Assumes nothing.
use Rattle.text.proofs.Writing.{◌⨾◌}
use Rattle.comparison.specs.Differences.{names_text}
use Rattle.comparison.proofs.put_names.Goals as goal

pub returns : goal.returns
unfolding names_text
returns c =
    c.put.ensures ⨾
    c.put_name_in_line.ensures ⨾
    c.put-2.ensures ⨾
    c.put_name_in_line-2.ensures ⨾
    c.put-3.ensures
