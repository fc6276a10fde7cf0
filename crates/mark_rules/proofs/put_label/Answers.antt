-- `put_label` writes `label_text`. Assumes nothing.
use Rattle.text.proofs.Writing.{◌⨾◌}
use Rattle.mark_rules.specs.Rules.{label_text}
use Rattle.mark_rules.proofs.put_label.Goals as goal

pub returns : goal.returns
unfolding label_text
returns c =
    c.put.ensures ⨾
    c.put_decimal.ensures ⨾
    c.put-2.ensures ⨾
    c.put_decimal-2.ensures ⨾
    c.put-3.ensures ⨾
    c.put_kind.ensures
