-- `byte` is `byte_of`. Assumes nothing.
use Rattle.settings.specs.Settings.{byte_of}
use borrow.Author.Rules.{rules}
use Rattle.settings.proofs.byte.Goals as goal

pub from_u16-requires : goal.from_u16-requires
unfolding byte_of
from_u16-requires c = search rules

pub returns : goal.returns
unfolding byte_of
returns c = simp c.from_u16.ensures
