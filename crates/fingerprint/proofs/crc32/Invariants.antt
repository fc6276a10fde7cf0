-- `crc32` is `crc32_of`. The loop's invariant: what is left of the bytes takes the remainder to the last one. Assumes nothing.
use mathlib.Core.Path.{◌≡◌}
use lib.ListN.{drop}
use Rattle.fingerprint.specs.Crc32.{after_bytes}
use Rattle.fingerprint.proofs.crc32.Given as goal

abbrev pub invariant-loop-b : goal.invariant-loop-b
invariant-loop-b l = after_bytes l.r (drop l.b-index l.bytes) ≡ after_bytes 0xffff_ffff l.bytes
