-- `put_small` puts the floor of what is less than 1: -1 or 0. Assumes nothing.
use Rattle.text.proofs.Writing.{puts_as}
use Rattle.floor_number.proofs.Numbers.{small_minus, small_nothing}
use Rattle.floor_number.proofs.put_small.Goals as goal

pub returns-then-float_of : goal.returns-then-float_of
returns-then-float_of c = puts_as (small_minus _ c.requires (rw c.float_of.ensures at c.if-float_of.true)) c.put.ensures

pub returns : goal.returns
returns c = puts_as (small_nothing _ c.requires (rw c.float_of.ensures at c.if-float_of.false)) c.put-2.ensures
