-- `put_word` puts `word_of`: the bytes from the word's first up to a bar. The loop's invariant: the word's bytes from the index on are left to put. Assumes nothing.
use lib.ListN.{drop}
use Rattle.words.specs.Words.{first_word, word_of}
use Rattle.text.proofs.Writing.{Left}
use Rattle.words.proofs.put_word.Given as goal

abbrev pub invariant-loop-b : goal.invariant-loop-b
invariant-loop-b l = Left l.initial.out (word_of l.words l.k) l.out (first_word (drop l.b-index l.b-items))
