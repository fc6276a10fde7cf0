-- `height` is `height_answer` of what is chosen: the height, or the refusal. The rest follows from the equation. Assumes nothing.
use Rattle.block.proofs.KnownCode.{settled_length}
use Rattle.block.proofs.Answered.{height_answered}
use Rattle.block.specs.Refusals.{chosen_by, chosen_of, height_answer}
use Rattle.generator.specs.Generator.{generator_of}
use Rattle.refusals.proofs.Passed.{passed_on}
use lib.Dec.{T}
use mathlib.Core.Path.{sym, subst, ◌∙◌}
use Rattle.block.proofs.height.Goals as goal

pub returns-in_err-c : goal.returns-in_err-c
unfolding chosen_of chosen_by height_answer generator_of
returns-in_err-c c =
    height_answered _ _ _ _ (λ n. (c.shared_slice_known-1.given n).fits) (subst T (sym c.well_formed.1.1.0.1) tt)
    (simp (passed_on c.from_residual.ensures.1, sym c.settle.ensures, c.in_err-c.was))

pub height_at-drawn-requires : goal.height_at-drawn-requires
height_at-drawn-requires c = settled_length _ _ _ (sym c.in_ok-c.was ∙ c.settle.ensures)

pub returns : goal.returns
unfolding chosen_of chosen_by height_answer generator_of
returns c =
    height_answered _ _ _ _ (λ n. (c.shared_slice_known-1.given n).fits) (subst T (sym c.well_formed.1.1.0.1) tt)
    (simp (sym c.settle.ensures, c.in_ok-c.was, c.height_at-drawn.ensures))
