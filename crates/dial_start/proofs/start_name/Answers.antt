-- `start_name` writes `name_start`: its parts, one after the other. Assumes nothing.
use Rattle.text.proofs.Writing.{◌⨾◌}
use Rattle.dial_start.specs.Start.{name_start}
use Rattle.dial_start.proofs.start_name.Goals as goal

pub returns : goal.returns
unfolding name_start
returns c =
    c.put.ensures ⨾
    c.put_decimal.ensures ⨾
    c.put-2.ensures ⨾
    c.put-3.ensures ⨾
    c.put-4.ensures
