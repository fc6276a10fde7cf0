use Rattle.text.proofs.Writing.{left_all, left_less, left_none}
use Rattle.words.proofs.Words.{word_bar, word_letter, word_end}
use Rattle.words.proofs.put_word.Goals as goal

pub loop-b-init : goal.loop-b-init
loop-b-init c = rw c.words_from-b-items.ensures left_all

pub returns-then-b-eq124 : goal.returns-then-b-eq124
returns-then-b-eq124 c = left_none (rw (word_bar _ _ c.loop-b-test.true c.if-b-eq124.true) at c.loop-b.invariant)

pub loop-b-preserved : goal.loop-b-preserved
loop-b-preserved c = left_less (rw (word_letter _ _ c.loop-b-test.true c.if-b-eq124.false) at c.loop-b.invariant) c.put_byte.ensures

pub returns : goal.returns
returns c = left_none (rw (word_end _ _ c.loop-b-test.false) at c.loop-b.invariant)
