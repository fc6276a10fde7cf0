-- `put_named` puts `named_text`: its parts, one after the other. Assumes nothing.
use Rattle.text.proofs.Writing.{◌⨾◌}
use Rattle.undrawn_lines.specs.Lines.{named_text}
use Rattle.undrawn_lines.proofs.put_named.Goals as goal

pub returns : goal.returns
unfolding named_text
returns c =
    c.put.ensures ⨾
    c.put_parameter_name.ensures ⨾
    c.put-2.ensures ⨾
    c.put_decimal.ensures ⨾
    c.put-3.ensures
