-- `put_rule` writes `rule_text`. Assumes nothing.
use Rattle.text.proofs.Writing.{◌⨾◌}
use Rattle.mark_rules.specs.Rules.{rule_text}
use Rattle.mark_rules.proofs.put_rule.Goals as goal

pub returns : goal.returns
unfolding rule_text
returns c =
    c.put.ensures ⨾
    c.put_decimal.ensures ⨾
    c.put-2.ensures ⨾
    c.put_decimal-2.ensures ⨾
    c.put-3.ensures
