use mathlib.Core.Path.{refl}
use native.Mathlib.Nat.{le_antisymm}
use native.Mathlib.Omega.{arith}
use Rattle.text.proofs.Writing.{◌⨾◌, puts_as, no_text, text_more}
use Rattle.caption_cells.specs.Cells.{left_of}
use Rattle.panel_captions.specs.Captions.{captions_text}
use Rattle.panel_captions.proofs.Cells.{next_left, own_cell}
use borrow.Author.Rules.{rules}
use Rattle.panel_captions.proofs.put_captions.Goals as goal

pub loop-k-init : goal.loop-k-init
unfolding left_of
loop-k-init c = (search rules, refl, no_text _)

pub loop-k-preserved : goal.loop-k-preserved
loop-k-preserved c =
    let inv = c.loop-k.invariant in
    let end = c.cell_end-end.ensures in (
      omega (arith, inv.0, end.1),
      next_left _ _ inv.1 end.0,
      text_more _ _ inv.2 (puts_as (own_cell _ _ inv.1 end.0 c.start_of.ensures.0) c.put_cell.ensures),
    )

pub returns : goal.returns
unfolding captions_text
returns c =
    let inv = c.loop-k.invariant in
    rw (le_antisymm c.loop-k.auto.k-end c.loop-k-test.false) at (inv.2 ⨾ (rw inv.1 at c.put_edge.ensures))
