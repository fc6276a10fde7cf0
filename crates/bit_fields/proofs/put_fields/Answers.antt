-- `put_fields` puts `fields_text`: its parts, one after the other. Assumes nothing.
use Rattle.text.proofs.Writing.{◌⨾◌}
use Rattle.bit_fields.specs.Pattern.{fields_text}
use Rattle.bit_fields.proofs.put_fields.Goals as goal

pub returns : goal.returns
unfolding fields_text
returns c =
    c.put_bits.ensures ⨾
    c.put.ensures ⨾
    c.put_bits-2.ensures ⨾
    c.put-2.ensures ⨾
    c.put_bits-3.ensures
