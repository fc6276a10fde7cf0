-- `all_digits` is `all_digits`. The loop's invariant: what is left is digits where the whole is. Assumes nothing.
use mathlib.Core.Path.{◌≡◌}
use lib.ListN.{drop}
use Rattle.level_reading.specs.Digits.{all_digits}
use Rattle.level_reading.proofs.all_digits.Given as goal

abbrev pub invariant-loop-c : goal.invariant-loop-c
invariant-loop-c l = all_digits (drop l.c-index l.text) ≡ all_digits l.text
