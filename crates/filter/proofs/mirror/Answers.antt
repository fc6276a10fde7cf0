-- `mirror` is `mirrored_of`. Assumes nothing.
use borrow.Author.Rules.{rules}
use Rattle.filter.specs.Formula.{mirrored_of}
use Rattle.filter.proofs.mirror.Goals as goal

pub enum_told-1 : goal.enum_told-1
unfolding mirrored_of
enum_told-1 c = search rules

pub enum_told-in-High : goal.enum_told-in-High
unfolding mirrored_of
enum_told-in-High c = search rules

pub returns-in-Low : goal.returns-in-Low
unfolding mirrored_of
returns-in-Low c = simp c.in-Low.is

pub returns-in-High : goal.returns-in-High
unfolding mirrored_of
returns-in-High c = simp c.in-High.is
