-- `put_other_name` puts `other_name`: the word at the byte's place in the list, or past it. Assumes nothing.
use Rattle.words.proofs.Words.{place_or_length}
use Rattle.byte_names.proofs.put_other_name.Goals as goal

pub returns : goal.returns
returns c = rw (c.unwrap_or-k.ensures, place_or_length _ _ _ c.index_of.ensures) at c.put_word.ensures
