-- `put_hex` puts `hex_of`. Assumes nothing.
use Rattle.numerals.specs.Spelled.{hex_of}
use Rattle.numerals.proofs.put_hex.Goals as goal

pub returns : goal.returns
unfolding hex_of
returns c = c.put_digits.ensures
