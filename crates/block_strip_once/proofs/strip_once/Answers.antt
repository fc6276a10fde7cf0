-- `strip_once` answers as `strip_once_answer` says and leaves what `strip_after` says. The rest follows from the two equations. Assumes nothing.
use Rattle.refusals.proofs.Passed.{passed_on}
use Rattle.block_strip.specs.Strips.{strip_after}
use Rattle.block_strip_once.specs.Strips.{strip_once_answer}
use Rattle.block_strip_once.proofs.Answered.{chosen_forward, strip_once_answered}
use mathlib.Core.Path.{sym, ◌∙◌}
use Rattle.block_strip_once.proofs.strip_once.Goals as goal

pub returns-in_err-g : goal.returns-in_err-g
unfolding strip_once_answer strip_after
returns-in_err-g c =
    let chosen = sym c.choose.ensures ∙ c.in_err-g.was in
    strip_once_answered _ _ _ _ _ (λ n. (c.shared_slice_known-1.given n).fits) (simp (passed_on c.from_residual.ensures.1, chosen)) (simp chosen)

pub generator_strip-requires : goal.generator_strip-requires
generator_strip-requires c = chosen_forward _ _ _ (sym c.choose.ensures ∙ c.in_ok-g.was)

pub returns : goal.returns
returns c =
    let chosen = sym c.choose.ensures ∙ c.in_ok-g.was in
    let filled = c.generator_strip.ensures in
    strip_once_answered _ _ _ _ _ (λ n. (c.shared_slice_known-1.given n).fits) (simp chosen filled.0) (simp chosen filled.1)
