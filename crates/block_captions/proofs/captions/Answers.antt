-- `captions` answers as `captions_answer` says and leaves what `captions_after` says. The rest follows from the two equations. Assumes nothing.
use mathlib.Core.Path.{sym, ◌∙◌}
use Rattle.refusals.proofs.Passed.{passed_on}
use Rattle.block_captions.specs.Answers.{captioned_answer, captions_answer, captions_after}
use Rattle.block_captions.proofs.Answered.{captions_answered}
use Rattle.block_captions.proofs.captions.Goals as goal

pub returns-in_err-g : goal.returns-in_err-g
unfolding captions_answer captions_after captioned_answer
returns-in_err-g c =
    let bytes = c.shared_slice_known-1 in
    let chosen = sym c.choose.ensures ∙ c.in_err-g.was in
    captions_answered (λ n. (bytes.given n).fits) (simp (passed_on c.from_residual.ensures.1, chosen)) (simp chosen)

pub returns-in-Ok : goal.returns-in-Ok
unfolding captions_answer captions_after captioned_answer
returns-in-Ok c =
    let bytes = c.shared_slice_known-1 in
    let written = c.captions-captioned.ensures in
    let chosen = sym c.choose.ensures ∙ c.in_ok-g.was in
    captions_answered (λ n. (bytes.given n).fits) (simp (chosen, sym written.0, c.in-Ok.is)) (simp (chosen, written.1))

pub returns-in-Err : goal.returns-in-Err
unfolding captions_answer captions_after captioned_answer
returns-in-Err c =
    let bytes = c.shared_slice_known-1 in
    let written = c.captions-captioned.ensures in
    let chosen = sym c.choose.ensures ∙ c.in_ok-g.was in
    captions_answered (λ n. (bytes.given n).fits) (simp (chosen, sym written.0, c.in-Err.is)) (simp (chosen, written.1))
