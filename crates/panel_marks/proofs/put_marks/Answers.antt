use native.Mathlib.Nat.{le_antisymm}
use native.Mathlib.Numerals.{add-one}
use Rattle.text.proofs.Writing.{◌⨾◌, puts_none}
use Rattle.panel_marks.specs.Marks.{rules_text, marks_text}
use Rattle.panel_marks.proofs.put_marks.Goals as goal

pub loop-i-init : goal.loop-i-init
unfolding rules_text
loop-i-init c = puts_none _

pub loop-i-preserved : goal.loop-i-preserved
unfolding rules_text
loop-i-preserved c = rw add-one (rw c.row.ensures.0 at (c.loop-i.invariant ⨾ c.put_mark.ensures))

pub returns : goal.returns
unfolding marks_text
returns c = rw (le_antisymm c.loop-i.auto.i-end c.loop-i-test.false, c.min-i-end.ensures) at c.loop-i.invariant
