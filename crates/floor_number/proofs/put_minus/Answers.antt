-- `put_minus` puts a minus, then the decimal. Assumes nothing.
use Rattle.text.proofs.Writing.{◌⨾◌}
use Rattle.floor_number.proofs.put_minus.Goals as goal

pub returns : goal.returns
returns c = c.put.ensures ⨾ c.put_decimal.ensures
