-- `read_digits` is `read_after`. The loop's invariant: the number so far has as many digits as were passed,
-- and what is left to read after it gives the answer. Assumes nothing.
use mathlib.Core.Path.{◌≡◌}
use Prim.Native.Nat.{◌^◌, ◌<◌}
use lib.ListN.{drop}
use Rattle.hex_reading.specs.Reading.{read_after}
use Rattle.hex_reading.proofs.read_digits.Given as goal

abbrev pub invariant-loop-c : goal.invariant-loop-c
invariant-loop-c l = (l.value < 16 ^ l.c-index) × (read_after l.value (drop l.c-index (drop 2 l.text)) ≡ read_after 0 (drop 2 l.text))
