-- `put_mark` writes `mark_text`. Assumes nothing.
use Rattle.text.proofs.Writing.{◌⨾◌}
use Rattle.mark_rules.specs.Rules.{mark_text}
use Rattle.mark_rules.proofs.put_mark.Goals as goal

pub returns : goal.returns
unfolding mark_text
returns c =
    rw c.nearest-across.ensures.0 at
    (c.put_rule.ensures ⨾
    c.put_label.ensures)
