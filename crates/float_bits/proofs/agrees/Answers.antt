-- `agrees` is `agree`. Assumes nothing.
use Rattle.float_bits.proofs.Agreement.{with_nan, with_number}
use Rattle.float_bits.proofs.agrees.Goals as goal

pub returns-then-x : goal.returns-then-x
returns-then-x c = with_nan _ _ c.if-x.true

pub returns : goal.returns
returns c = with_number _ _ c.if-x.false
