-- `noise_from` is `noise_of`. Assumes nothing.
use Rattle.settings.specs.Settings.{noise_of}
use borrow.Author.Rules.{rules}
use Rattle.settings.proofs.noise_from.Goals as goal

pub byte-requires : goal.byte-requires
unfolding noise_of
byte-requires c = search rules

pub returns : goal.returns
unfolding noise_of
returns c = simp c.byte.ensures
