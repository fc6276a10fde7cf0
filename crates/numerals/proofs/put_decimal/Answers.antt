-- `put_decimal` puts `decimal_of`. Assumes nothing.
use Rattle.numerals.specs.Spelled.{decimal_of}
use Rattle.numerals.proofs.put_decimal.Goals as goal

pub returns : goal.returns
unfolding decimal_of
returns c = rw c.places.ensures.0 at c.put_digits.ensures
