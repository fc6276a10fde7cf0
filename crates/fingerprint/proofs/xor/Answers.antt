-- `xor` is `xor32`: both numbers have 32 bits. Assumes nothing.
use Rattle.fingerprint.proofs.Bits.{xor_is}
use borrow.Author.Rules.{rules}
use Rattle.fingerprint.proofs.xor.Goals as goal

pub returns : goal.returns
returns c = xor_is 32 _ _ (search rules) (search rules)
