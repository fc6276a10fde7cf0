-- `take_byte` is `after_byte`. The loop's invariant: as many bits have fallen out as were counted. Assumes nothing.
use mathlib.Core.Path.{◌≡◌}
use Prim.Native.Nat.{◌≤◌}
use Rattle.fingerprint.specs.Crc32.{xor32, steps_of}
use Rattle.fingerprint.proofs.take_byte.Given as goal

abbrev pub invariant-loop : goal.invariant-loop
invariant-loop l = (l.counter ≤ 8) × (l.s ≡ steps_of l.counter (xor32 l.r l.b))
