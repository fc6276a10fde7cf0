-- `put_large` puts `large_text`: its parts, one after the other. Assumes nothing.
use Rattle.text.proofs.Writing.{◌⨾◌}
use Rattle.floor_lines.specs.Lines.{large_text}
use Rattle.floor_lines.proofs.put_large.Goals as goal

pub returns : goal.returns
unfolding large_text
returns c =
    c.put_head.ensures ⨾
    c.put_line.ensures
