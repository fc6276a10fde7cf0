-- `write_captions` writes `caption_at` for all n samples. The loop's invariant: the first i of them are written. Assumes nothing.
use Prim.Native.Nat.{◌≤◌}
use mathlib.Core.Path.{◌≡◌}
use lib.ListN.{length}
use Rattle.lists.specs.Written.{written}
use Rattle.captions.specs.Captions.{caption_at}
use Rattle.captions.proofs.write_captions.Given as goal

abbrev pub invariant-loop-i : goal.invariant-loop-i
invariant-loop-i l = (length l.out ≡ length l.initial.out) × (l.i ≤ l.n) × (l.out ≡ written (caption_at l.g.shape l.n) l.i l.initial.out)
