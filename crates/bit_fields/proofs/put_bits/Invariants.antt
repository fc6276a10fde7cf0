-- `put_bits` puts `digits_of` in base 2. The loop's invariant: the last bits are left to put. Assumes nothing.
use Rattle.text.proofs.Writing.{Left}
use Rattle.numerals.specs.Spelled.{digits_of}
use Rattle.bit_fields.proofs.put_bits.Given as goal

abbrev pub invariant-loop-k : goal.invariant-loop-k
invariant-loop-k l = Left l.initial.out (digits_of 2 l.count l.n) l.out (digits_of 2 l.k l.n)
