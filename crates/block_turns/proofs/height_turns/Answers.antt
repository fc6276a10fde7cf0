-- `height_turns` is `height_answer` of what is chosen at the turns: the height, or the refusal. The rest follows from the equation. Assumes nothing.
use lib.Dec.{T}
use mathlib.Core.Path.{sym, subst}
use Rattle.refusals.proofs.Passed.{passed_on}
use Rattle.block.specs.Refusals.{height_answer}
use Rattle.block_turns.proofs.Answered.{height_turns_answered}
use Rattle.block_turns.proofs.height_turns.Goals as goal

pub returns-in_err-g : goal.returns-in_err-g
unfolding height_answer
returns-in_err-g c =
    height_turns_answered _ _ _ _ _ (λ n. (c.shared_slice_known-1.given n).fits) (subst T (sym c.well_formed.1.1.1.0.1) tt)
    (simp (passed_on c.from_residual.ensures.1, sym c.choose_turns.ensures, c.in_err-g.was))

pub returns : goal.returns
unfolding height_answer
returns c =
    height_turns_answered _ _ _ _ _ (λ n. (c.shared_slice_known-1.given n).fits) (subst T (sym c.well_formed.1.1.1.0.1) tt)
    (simp (sym c.choose_turns.ensures, c.in_ok-g.was, c.shape_height.ensures))
