-- `word_of` is `to_bits`. Assumes nothing.
use mathlib.Core.Bool.{true, false}
use Rattle.math.proofs.Nan.{is_nan_tested, not_nan}
use Rattle.float_bits.proofs.NanBits.{nan_bits_lem}
use Rattle.float_bits.proofs.word_of.Goals as goal

pub returns-then-x : goal.returns-then-x
returns-then-x c = nan_bits_lem _ (is_nan_tested true _ c.if-x.true)

pub float_to_bits-result : goal.float_to_bits-result
float_to_bits-result c = not_nan _ (is_nan_tested false _ c.if-x.false)
