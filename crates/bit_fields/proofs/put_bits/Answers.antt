use Rattle.text.proofs.Writing.{left_all, left_none}
use Rattle.numerals.proofs.Digits.{no_digits}
use Rattle.bit_fields.proofs.Bits.{bit_less}
use Rattle.bit_fields.proofs.put_bits.Goals as goal

pub loop-k-init : goal.loop-k-init
loop-k-init c = left_all

pub loop-k-preserved : goal.loop-k-preserved
loop-k-preserved c = bit_less _ _ c.loop-k-test.true c.loop-k.invariant c.put_bit.ensures

pub returns : goal.returns
returns c = left_none (rw (no_digits _ _ _ c.loop-k-test.false) at c.loop-k.invariant)
