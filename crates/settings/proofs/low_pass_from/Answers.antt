-- `low_pass_from` is `low_pass_of`. Assumes nothing.
use Rattle.settings.specs.Settings.{low_pass_of}
use borrow.Author.Rules.{rules}
use Rattle.settings.proofs.low_pass_from.Goals as goal

pub low_pass_slope-requires : goal.low_pass_slope-requires
unfolding low_pass_of
low_pass_slope-requires c = search rules

pub byte-requires : goal.byte-requires
unfolding low_pass_of
byte-requires c = search rules

pub returns : goal.returns
unfolding low_pass_of
returns c = simp (c.byte.ensures, c.low_pass_slope.ensures)
