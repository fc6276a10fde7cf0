-- `fitting_strip` answers as `strip_answer` says and leaves what `strip_after` says: what is settled fills the strip, a refusal leaves it. Assumes nothing.
use Rattle.refusals.proofs.Passed.{passed_on}
use Rattle.block.proofs.KnownCode.{settled_length}
use Rattle.block.specs.Refusals.{chosen_by, chosen_of}
use Rattle.block_strip.specs.Strips.{strip_answer, strip_after}
use Rattle.strip.proofs.Lengths.{fits_between}
use Rattle.strip.specs.Strip.{steps_of, strip_of}
use Rattle.generator.specs.Generator.{generator_of}
use mathlib.Core.Path.{sym, ◌∙◌}
use Rattle.block_strip.proofs.fitting_strip.Goals as goal

pub returns-in_err-c : goal.returns-in_err-c
unfolding chosen_of chosen_by strip_answer strip_after
returns-in_err-c c =
    let settled = sym c.settle.ensures in
    let refused = c.in_err-c.was in
    (simp (passed_on c.from_residual.ensures.1, settled, refused), simp (settled, refused))

pub strip_at-requires : goal.strip_at-requires
strip_at-requires c =
    let pre = c.requires in
    (settled_length _ _ _ (sym c.in_ok-c.was ∙ c.settle.ensures), pre.0, pre.1)

pub returns : goal.returns
unfolding chosen_of chosen_by strip_answer strip_after generator_of steps_of strip_of
returns c =
    let settled = sym c.settle.ensures in
    let known = c.in_ok-c.was in
    let pre = c.requires in
    let filled = c.strip_at.ensures in
    let length = fits_between _ pre.0 pre.1 in
    (simp (settled, known, length, filled.0), simp (settled, known, length, filled.1))
