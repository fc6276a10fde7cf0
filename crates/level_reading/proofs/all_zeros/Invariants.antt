-- `all_zeros` tests the number. The loop's invariant: the digits that are left stand for the same number.
-- Assumes nothing.
use mathlib.Core.Path.{◌≡◌}
use lib.ListN.{drop}
use Rattle.numerals.specs.Spelled.{number_of}
use Rattle.level_reading.proofs.all_zeros.Given as goal

abbrev pub invariant-loop-c : goal.invariant-loop-c
invariant-loop-c l = number_of (drop l.c-index l.digits) ≡ number_of l.digits
