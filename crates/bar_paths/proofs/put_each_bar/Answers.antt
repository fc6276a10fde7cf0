use native.Mathlib.Nat.{le_antisymm}
use native.Mathlib.Numerals.{add-one}
use Rattle.text.proofs.Writing.{◌⨾◌, puts_none}
use Rattle.bar_paths.specs.Paths.{some_bars}
use Rattle.bar_paths.proofs.put_each_bar.Goals as goal

pub loop-i-init : goal.loop-i-init
unfolding some_bars
loop-i-init c = puts_none _

pub loop-i-preserved : goal.loop-i-preserved
unfolding some_bars
loop-i-preserved c = rw add-one (c.loop-i.invariant ⨾ c.put_bar.ensures)

pub returns : goal.returns
returns c = rw (le_antisymm c.loop-i.auto.i-end c.loop-i-test.false, c.min-i-end.ensures) at c.loop-i.invariant
