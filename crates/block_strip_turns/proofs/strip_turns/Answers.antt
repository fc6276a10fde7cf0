-- `strip_turns` answers as `strip_answer` says and leaves what `strip_after` says. The rest follows from the two equations. Assumes nothing.
use Rattle.refusals.proofs.Passed.{passed_on}
use Rattle.block_strip.specs.Strips.{strip_answer, strip_after}
use Rattle.block_strip_turns.proofs.Answered.{strip_turns_answered}
use mathlib.Core.Path.{sym, ◌∙◌}
use Rattle.block_strip_turns.proofs.strip_turns.Goals as goal

pub returns-in_err-g : goal.returns-in_err-g
unfolding strip_answer strip_after
returns-in_err-g c =
    let chosen = sym c.choose_turns.ensures ∙ c.in_err-g.was in
    strip_turns_answered _ _ _ (λ n. (c.shared_slice_known-1.given n).fits) _ _ (simp (passed_on c.from_residual.ensures.1, chosen)) (simp chosen)

pub returns : goal.returns
returns c =
    let chosen = sym c.choose_turns.ensures ∙ c.in_ok-g.was in
    let filled = c.plain_strip.ensures in
    strip_turns_answered _ _ _ (λ n. (c.shared_slice_known-1.given n).fits) _ _ (simp chosen filled.0) (simp chosen filled.1)
