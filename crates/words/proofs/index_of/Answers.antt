use mathlib.Core.Path.{sym, ◌∙◌}
use native.Mathlib.Omega.{arith}
use native.Mathlib.Nat.{le_antisymm}
use Rattle.words.proofs.Words.{place_here, place_further, place_none}
use Rattle.words.proofs.index_of.Goals as goal

pub returns-then-a-b : goal.returns-then-a-b
returns-then-a-b c = (c.loop-i-test.true, place_here _ _ _ c.loop-i.invariant c.loop-i-test.true c.if-a-b.true)

pub loop-i-preserved : goal.loop-i-preserved
loop-i-preserved c = place_further _ _ _ c.loop-i.invariant c.loop-i-test.true c.if-a-b.false

pub returns : goal.returns
returns c = sym (place_none _ _ _ c.loop-i.invariant c.loop-i-test.false) ∙ le_antisymm (omega arith) c.loop-i-test.false
