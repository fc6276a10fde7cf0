-- `count_codes` is `codes_count`. The loop's invariant: those of the first codes are counted. Assumes nothing.
use mathlib.Core.Path.{◌≡◌}
use Prim.Native.Nat.{◌≤◌}
use Rattle.code_bytes.specs.Bytes.{byte_at}
use Rattle.comparison.specs.Differences.{codes_count}
use Rattle.comparison.proofs.count_codes.Given as goal

abbrev pub invariant-loop-number : goal.invariant-loop-number
invariant-loop-number l = (l.count ≤ l.number) × (l.count ≡ codes_count l.number (byte_at l.blocks.old.now) (byte_at l.blocks.new.now))
