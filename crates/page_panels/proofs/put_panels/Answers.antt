use native.Mathlib.Nat.{le_antisymm}
use native.Mathlib.Numerals.{add-one}
use Rattle.text.proofs.Writing.{◌⨾◌, puts_none}
use Rattle.page_panels.specs.Panels.{panels_text}
use Rattle.page_panels.proofs.put_panels.Goals as goal

pub loop-k-init : goal.loop-k-init
unfolding panels_text
loop-k-init c = puts_none _

pub loop-k-preserved : goal.loop-k-preserved
unfolding panels_text
loop-k-preserved c = rw add-one (c.loop-k.invariant ⨾ c.put_numbered.ensures)

pub returns : goal.returns
returns c = rw (le_antisymm c.loop-k.auto.k-end c.loop-k-test.false) at c.loop-k.invariant
