-- `read_number` is `read_of`. The loop's invariant: the number so far has as many digits as were passed, and what is left to read after it gives the answer. Assumes nothing.
use mathlib.Core.Path.{◌≡◌}
use Prim.Native.Nat.{◌^◌, ◌<◌}
use lib.ListN.{drop}
use Rattle.decimal_reading.specs.Reading.{read_after, read_of}
use Rattle.decimal_reading.proofs.read_number.Given as goal

abbrev pub invariant-loop-c : goal.invariant-loop-c
invariant-loop-c l = (l.value < 10 ^ l.c-index) × (read_after l.value (drop l.c-index l.text) ≡ read_of l.text)
