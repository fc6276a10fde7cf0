-- `double` doubles the number. The loop's invariant: from i on the digits are doubled. Assumes nothing.
use Rattle.level_reading.proofs.Doubling.{DoubledFrom}
use Rattle.level_reading.proofs.double.Given as goal

abbrev pub invariant-loop-i : goal.invariant-loop-i
invariant-loop-i l = DoubledFrom l.initial.digits l.digits l.i l.carry
