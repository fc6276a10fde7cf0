-- `fade_from` is `fade_of`. Assumes nothing.
use Rattle.settings.specs.Settings.{fade_of}
use borrow.Author.Rules.{rules}
use Rattle.settings.proofs.fade_from.Goals as goal

pub byte-rise-requires : goal.byte-rise-requires
unfolding fade_of
byte-rise-requires c = search rules

pub returns : goal.returns
unfolding fade_of
returns c = simp c.byte-rise.ensures
