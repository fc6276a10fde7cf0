-- `noise_level` is `noise_level_of`. Assumes nothing.
use Rattle.noise.specs.Formula.{noise_level_of}
use borrow.Author.Rules.{rules}
use Rattle.noise.proofs.noise_level.Goals as goal

pub noise_at-requires : goal.noise_at-requires
unfolding noise_level_of
noise_at-requires c = search rules

pub returns : goal.returns
unfolding noise_level_of
returns c = simp c.noise_at.ensures
