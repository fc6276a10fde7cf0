-- `put_source` writes `source_dial` of the two bytes. Assumes nothing.
use Rattle.text.proofs.Writing.{◌⨾◌}
use Rattle.dial_lines.specs.Lines.{dial_text}
use Rattle.dial_words.proofs.put_source.Goals as goal

pub returns : goal.returns
unfolding dial_text
returns c =
    rw c.start_line-b.ensures.byte at (c.start_line-b.ensures.text ⨾
    c.put_source.ensures ⨾
    c.end.ensures)
