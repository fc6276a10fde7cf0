use mathlib.Core.Path.{ap, ◌∙◌}
use Prim.Native.Nat.{ℕ}
use native.Mathlib.Numerals.{add-one}
use borrow.Author.Rules.{rules}
use lib.Ieee.{nan}
use Rattle.std.proofs.lemmas.List.{get_or-take}
use Rattle.marks.specs.Marks.{no_marks, stored}
use Rattle.marks.proofs.Stored.{push_more}
use Rattle.tap_marks.specs.Marks.{tap_marks}
use Rattle.tap_marks.proofs.AllTaps.{used_below, all_used}
use Rattle.tap_marks.proofs.taps_marks.Goals as goal

pub loop-at-init : goal.loop-at-init
unfolding tap_marks no_marks
loop-at-init c = c.no_marks-marks.ensures

pub loop-at-preserved : goal.loop-at-preserved
unfolding tap_marks
loop-at-preserved c =
    let below = used_below _ _ c.loop-at-test.true in
    let read = get_or-take _ c.args.taps.at _ nan below in
    simp add-one (push_more _ _ c.loop-at.invariant (rw read at c.push-marks.ensures))

pub returns : goal.returns
returns c =
    let a = c.loop-at.auto in
    c.loop-at.invariant ∙ ap (λ (n : ℕ). stored (tap_marks c.args.taps n)) (all_used c.min-count.result c.args.taps.at c.args.taps.used (search rules) a.at-index-end c.loop-at-test.false c.min-count.ensures)
