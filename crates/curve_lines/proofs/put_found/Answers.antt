-- `put_found` puts `found_text`: its parts, one after the other. Assumes nothing.
use mathlib.Core.Path.{ap}
use Rattle.text.proofs.Writing.{◌⨾◌, puts_as}
use Rattle.nine_places.specs.Places.{nine_places}
use Rattle.curve_lines.specs.Lines.{found_text}
use Rattle.curve_lines.proofs.put_found.Goals as goal

pub returns : goal.returns
unfolding found_text
returns c =
    c.put_number.ensures ⨾
    c.put.ensures ⨾
    puts_as (ap nine_places c.sustain_end.ensures)
    c.put_nine_places.ensures ⨾
    c.put-2.ensures ⨾
    c.put_number-2.ensures
