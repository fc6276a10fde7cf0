-- `put_floor` puts `floor_line`: its parts, one after the other. Assumes nothing.
use Rattle.text.proofs.Writing.{◌⨾◌, puts_as}
use Rattle.floor_lines.specs.Lines.{floor_line}
use Rattle.floor_lines.proofs.Cases.{number_is}
use Rattle.floor_lines.proofs.put_floor.Goals as goal

pub returns : goal.returns
unfolding floor_line
returns c =
    let w = c.word_of.ensures in
    let f = c.floor.ensures in
    let x = c.float_of.ensures in
    let h = c.requires in
    c.put.ensures ⨾
    (rw (w, f, x) at c.put_pattern.ensures) ⨾
    c.put-2.ensures ⨾
    puts_as (number_is _ h) c.put_floor_number.ensures ⨾
    c.put-3.ensures
