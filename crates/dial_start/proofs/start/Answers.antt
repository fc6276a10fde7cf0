-- `start` writes `dial_start`: its parts, one after the other. Assumes nothing.
use Rattle.text.proofs.Writing.{◌⨾◌}
use Rattle.dial_start.specs.Start.{dial_start}
use Rattle.dial_start.proofs.start.Goals as goal

pub returns : goal.returns
unfolding dial_start
returns c =
    c.start_name.ensures ⨾
    c.put_decimal.ensures ⨾
    c.put.ensures ⨾
    c.put_was.ensures ⨾
    c.start_note.ensures
