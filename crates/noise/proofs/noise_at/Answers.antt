-- `noise_at` is `noise_at_of`. Assumes nothing.
use Rattle.noise.specs.Formula.{noise_at_of}
use borrow.Author.Rules.{rules}
use Rattle.noise.proofs.noise_at.Goals as goal

pub sin_turns-requires : goal.sin_turns-requires
unfolding noise_at_of
sin_turns-requires c = search rules

pub fract-requires : goal.fract-requires
unfolding noise_at_of
fract-requires c = search rules

pub returns : goal.returns
unfolding noise_at_of
returns c = simp (c.fract.ensures, c.sin_turns.ensures)
