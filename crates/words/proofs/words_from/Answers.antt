use mathlib.Core.Path.{sym, ◌∙◌}
use native.Mathlib.Omega.{arith}
use Rattle.words.proofs.Words.{word_passed, word_reached, word_last}
use Rattle.words.proofs.words_from.Goals as goal

pub loop-preserved : goal.loop-preserved
loop-preserved c = rw c.in-Some.ensures (c.loop.invariant ∙ word_passed _ c.args.k c.loop.counter c.loop-test.true)

pub returns-in-None : goal.returns-in-None
returns-in-None c = word_last _ _ c.in-None.ensures ∙ sym c.loop.invariant

pub returns : goal.returns
returns c = word_reached _ _ (omega arith) ∙ sym c.loop.invariant
