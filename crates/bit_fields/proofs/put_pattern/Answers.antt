-- `put_pattern` puts `pattern_text`: its parts, one after the other. Assumes nothing.
use Rattle.text.proofs.Writing.{◌⨾◌}
use Rattle.bit_fields.specs.Pattern.{pattern_text}
use Rattle.bit_fields.proofs.put_pattern.Goals as goal

pub returns : goal.returns
unfolding pattern_text
returns c =
    c.put.ensures ⨾
    c.put_hex.ensures ⨾
    c.put-2.ensures ⨾
    c.put_fields.ensures
