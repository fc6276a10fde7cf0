-- `put_numbers` puts `numbers_text`: its parts, one after the other. Assumes nothing.
use mathlib.Core.Path.{ap, ◌∙◌}
use lib.Ieee.{binary32, to_bits}
use Rattle.numerals.specs.Spelled.{hex_of}
use Rattle.text.proofs.Writing.{◌⨾◌, puts_as}
use Rattle.chart_cells.specs.Cells.{numbers_text}
use Rattle.chart_cells.proofs.put_numbers.Goals as goal

pub returns : goal.returns
unfolding numbers_text
returns c =
    c.put_bend.ensures ⨾
    c.put.ensures ⨾
    puts_as (ap hex_of (c.word_of.ensures ∙ ap (to_bits binary32) c.bend.ensures.is)) c.put_hex.ensures
