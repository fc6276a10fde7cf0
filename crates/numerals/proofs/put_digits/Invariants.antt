-- `put_digits` puts `digits_of`. The loop's invariant: the last digits are left to put. Assumes nothing.
use Rattle.numerals.specs.Spelled.{digits_of}
use Rattle.text.proofs.Writing.{Left}
use Rattle.numerals.proofs.put_digits.Given as goal

abbrev pub invariant-loop-k : goal.invariant-loop-k
invariant-loop-k l = Left l.initial.out (digits_of l.base l.count l.n) l.out (digits_of l.base l.k l.n)
