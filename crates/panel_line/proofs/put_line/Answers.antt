use native.Mathlib.Nat.{le_antisymm}
use native.Mathlib.Numerals.{add-one}
use Rattle.text.proofs.Writing.{◌⨾◌, puts_none}
use Rattle.panel_line.specs.Line.{points_text, line_text}
use Rattle.panel_line.proofs.put_line.Goals as goal

pub loop-i-init : goal.loop-i-init
unfolding points_text
loop-i-init c = puts_none _

pub loop-i-preserved : goal.loop-i-preserved
unfolding points_text
loop-i-preserved c = rw add-one (c.loop-i.invariant ⨾ c.put_point.ensures)

pub returns : goal.returns
unfolding line_text
returns c = rw (le_antisymm c.loop-i.auto.i-end c.loop-i-test.false, c.min-i-end.ensures) at (c.put.ensures ⨾ c.loop-i.invariant ⨾ c.put-2.ensures)
