use Prim.Native.Nat.{◌≤◌}
use mathlib.Core.Path.{refl}
use native.Mathlib.Nat.{le_antisymm}
use native.Mathlib.Omega.{arith}
use borrow.Author.Rules.{rules}
use lib.ListN.{length, length-set}
use Rattle.lists.specs.Written.{written}
use Rattle.lists.proofs.Written.{written_next, written_whole}
use Rattle.captions.specs.Captions.{caption_at}
use Rattle.captions.proofs.Writing.{caption_here}
use Rattle.captions.proofs.write_captions.Goals as goal

pub loop-i-init : goal.loop-i-init
unfolding written
loop-i-init c = (search rules, search rules, refl)

pub loop-i-preserved : goal.loop-i-preserved
loop-i-preserved c =
    let n : 1 ≤ length c.args.out.now = omega arith in
    (simp length-set c.loop-i.invariant.0, search rules, written_next (caption_at c.args.g.shape _) _ _ c.loop-i.invariant.2 (caption_here c.args.g.shape _ _ _ n refl c.caption_at.ensures))

pub returns : goal.returns
returns c = written_whole (caption_at c.args.g.shape _) _ _ _ (le_antisymm c.loop-i.invariant.1 c.loop-i-test.false) c.loop-i.invariant.2
