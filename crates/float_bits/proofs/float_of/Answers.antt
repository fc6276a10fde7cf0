-- `float_of` is `bits`. Assumes nothing.
use lib.Ieee.{div, of_bits}
use Rattle.float_bits.proofs.NanBits.{nan_above, number_pattern, one_nan}
use borrow.Author.Rules.{rules}
use Rattle.float_bits.proofs.float_of.Goals as goal

pub returns-then-word-gt-INFINITY : goal.returns-then-word-gt-INFINITY
unfolding div of_bits
returns-then-word-gt-INFINITY c = one_nan _ (nan_above c.args.word c.if-word-gt-INFINITY.true)

pub float_from_bits-result : goal.float_from_bits-result
unfolding div of_bits
float_from_bits-result c = number_pattern c.args.word c.if-word-gt-INFINITY.false

pub returns : goal.returns
unfolding div of_bits
returns c = search rules
