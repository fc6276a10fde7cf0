-- `byte_of` is `byte_of`. Assumes nothing.
use borrow.Author.Rules.{rules}
use Rattle.replay_blocks.proofs.Numbers.{remainder_fits}
use Rattle.replay_blocks.proofs.byte_of.Goals as goal

pub overflow_cast-result-2 : goal.overflow_cast-result-2
overflow_cast-result-2 c = record { fits = remainder_fits _ _ (search rules) }
