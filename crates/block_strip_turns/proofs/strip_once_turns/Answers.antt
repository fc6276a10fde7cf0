-- `strip_once_turns` answers as `strip_once_answer` says and leaves what `strip_after` says. The rest follows from the two equations. Assumes nothing.
use Rattle.refusals.proofs.Passed.{passed_on}
use Rattle.block_strip.specs.Strips.{strip_after}
use Rattle.block_strip_once.specs.Strips.{strip_once_answer}
use Rattle.block_strip_turns.proofs.Answered.{turns_forward, strip_once_turns_answered}
use mathlib.Core.Path.{sym, ◌∙◌}
use Rattle.block_strip_turns.proofs.strip_once_turns.Goals as goal

pub returns-in_err-walked : goal.returns-in_err-walked
unfolding strip_once_answer strip_after
returns-in_err-walked c =
    let chosen = sym c.choose_turns.ensures ∙ c.in_err-walked.was in
    strip_once_turns_answered _ _ _ (λ n. (c.shared_slice_known-1.given n).fits) _ _ (simp (passed_on c.from_residual.ensures.1, chosen)) (simp chosen)

pub generator_strip-requires : goal.generator_strip-requires
generator_strip-requires c = turns_forward _ _ _ _ (sym c.choose_turns.ensures ∙ c.in_ok-walked.was)

pub returns : goal.returns
returns c =
    let chosen = sym c.choose_turns.ensures ∙ c.in_ok-walked.was in
    let filled = c.generator_strip.ensures in
    strip_once_turns_answered _ _ _ (λ n. (c.shared_slice_known-1.given n).fits) _ _ (simp chosen filled.0) (simp chosen filled.1)
