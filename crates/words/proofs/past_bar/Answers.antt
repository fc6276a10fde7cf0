use mathlib.Core.Path.{sym, ◌∙◌}
use native.Mathlib.Omega.{arith}
use lib.ListN.{length-drop}
use lib.Seq.{take_all}
use Rattle.words.proofs.Words.{past_bar_lem, past_letter, past_end}
use Rattle.words.proofs.past_bar.Goals as goal

pub returns-then-b-eq124 : goal.returns-then-b-eq124
returns-then-b-eq124 c = take_all _ _ (rw length-drop (omega arith)) ∙ sym (c.loop-i.invariant ∙ past_bar_lem _ _ _ c.loop-i-test.true c.if-b-eq124.true)

pub loop-i-preserved : goal.loop-i-preserved
loop-i-preserved c = c.loop-i.invariant ∙ past_letter _ _ _ c.loop-i-test.true c.if-b-eq124.false

pub returns : goal.returns
returns c = sym (c.loop-i.invariant ∙ past_end _ _ _ c.loop-i-test.false)
