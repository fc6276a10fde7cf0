use mathlib.Core.Path.{refl}
use native.Mathlib.Nat.{le_antisymm}
use borrow.Author.Rules.{rules}
use Rattle.lists.specs.Written.{written}
use Rattle.lists.proofs.Written.{written_next, written_whole}
use Rattle.replay_blocks.specs.Drawn.{drawn_block}
use Rattle.replay_blocks.proofs.Numbers.{none_drawn, one_drawn, byte_drawn}
use Rattle.replay_blocks.proofs.drawn_block.Goals as goal

pub loop-place-init : goal.loop-place-init
unfolding written
loop-place-init c = (search rules, search rules, none_drawn _, refl)

pub loop-place-preserved : goal.loop-place-preserved
loop-place-preserved c =
    let at = c.loop-place.invariant in
    (search rules, search rules, one_drawn _ _ at.2 c.next-s.ensures.0, written_next _ _ _ at.3 (byte_drawn _ _ _ at.2 c.next-s.ensures.0 c.byte_of.ensures))

pub returns : goal.returns
unfolding drawn_block
returns c =
    let at = c.loop-place.invariant in
    (written_whole _ _ _ _ (le_antisymm c.loop-place.auto.place-index-end c.loop-place-test.false) at.3, at.0)
