-- `put_none` puts `none_text`: its parts, one after the other. Assumes nothing.
use Rattle.text.proofs.Writing.{◌⨾◌}
use Rattle.curve_lines.specs.Lines.{none_text}
use Rattle.curve_lines.proofs.put_none.Goals as goal

pub returns : goal.returns
unfolding none_text
returns c = c.put.ensures ⨾ c.put_number.ensures
