-- `oscillator_two_from` is `oscillator_two_of`. Assumes nothing.
use Rattle.settings.specs.Settings.{oscillator_two_of}
use borrow.Author.Rules.{rules}
use Rattle.settings.proofs.oscillator_two_from.Goals as goal

pub byte-requires : goal.byte-requires
unfolding oscillator_two_of
byte-requires c = search rules

pub returns : goal.returns
unfolding oscillator_two_of
returns c = simp c.byte.ensures
