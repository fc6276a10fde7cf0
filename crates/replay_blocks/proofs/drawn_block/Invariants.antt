-- `drawn_block` is `drawn_block`. The loop's invariant: the bytes that were passed are drawn, and s is the last number of them. Assumes nothing.
use mathlib.Core.Path.{◌≡◌}
use Prim.Native.Nat.{◌<◌}
use lib.ListN.{length}
use Rattle.lists.specs.Written.{written}
use Rattle.replay_blocks.specs.Drawn.{drawn, drawn_byte}
use Rattle.replay_blocks.proofs.drawn_block.Given as goal

abbrev pub invariant-loop-place : goal.invariant-loop-place
invariant-loop-place l =
    (length l.place-items ≡ 242) × (l.s < 0x8000_0000) × (l.s ≡ drawn l.seed l.place-index) × (l.place-items ≡ written (drawn_byte l.seed l.most) l.place-index l.initial.place-items)
