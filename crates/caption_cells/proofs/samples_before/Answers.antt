use mathlib.Core.Path.{◌≡◌, refl}
use native.Mathlib.Numerals.{add-one}
use native.Mathlib.Omega.{arith}
use borrow.Author.Rules.{rules}
use Rattle.caption_cells.specs.Cells.{samples_before}
use Rattle.caption_cells.proofs.samples_before.Goals as goal

pub loop-caption-init : goal.loop-caption-init
unfolding samples_before
loop-caption-init c = (search rules, refl)

pub loop-caption-preserved : goal.loop-caption-preserved
unfolding samples_before
loop-caption-preserved c =
    let i = c.loop-caption.invariant in
    (omega (arith, c.counted-count.ensures.1, i.0), rw add-one (simp (c.counted-count.ensures.0, i.1)))

pub returns : goal.returns
returns c =
    let i = c.loop-caption.invariant in
    let e : c.loop-caption.caption-index ≡ 501 = omega arith in
    (rw e at i.1, rw e at i.0)
