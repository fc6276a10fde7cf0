-- `count_undrawn` is `undrawn_count`. The loop's invariant: those of the first bytes are counted. Assumes nothing.
use mathlib.Core.Path.{◌≡◌}
use Prim.Native.Nat.{◌≤◌}
use Rattle.code_bytes.specs.Bytes.{byte_at}
use Rattle.undrawn_count.specs.Count.{undrawn_count}
use Rattle.undrawn_count.proofs.count_undrawn.Given as goal

abbrev pub invariant-loop-n : goal.invariant-loop-n
invariant-loop-n l = (l.count ≤ l.n) × (l.count ≡ undrawn_count l.n (byte_at l.blocks.old.now) (byte_at l.blocks.new.now))
