-- `put_bit` puts the character of one bit. Assumes nothing.
use Rattle.bit_fields.proofs.Bits.{bit_put}
use Rattle.bit_fields.proofs.put_bit.Goals as goal

pub returns : goal.returns
returns c = bit_put _ _ c.put_byte.ensures
