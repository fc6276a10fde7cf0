-- `strip` answers as `strip_answer` says and leaves what `strip_after` says, by the two functions below it. The rest follows from the two equations. Assumes nothing.
use Rattle.block_strip.proofs.Answered.{strip_answered}
use Rattle.block_strip.proofs.Unfit.{unfit_answer, unfit_after}
use Rattle.strip.proofs.Lengths.{between}
use mathlib.Core.Path.{sym, ◌∙◌}
use Rattle.block_strip.proofs.strip.Goals as goal

pub returns-then-not-fits : goal.returns-then-not-fits
returns-then-not-fits c =
    let bytes = c.shared_slice_known-1 in
    let unfit = sym c.fits.ensures ∙ c.if-not-fits.true in
    strip_answered _ _ _ _ _ (λ n. (bytes.given n).fits) (c.unfit_strip.ensures ∙ unfit_answer _ _ unfit) (unfit_after _ _ unfit)

pub fitting_strip-requires : goal.fitting_strip-requires
fitting_strip-requires c = between _ c.fits.ensures c.if-not-fits.false

pub returns : goal.returns
returns c =
    let bytes = c.shared_slice_known-1 in
    let filled = c.fitting_strip.ensures in
    strip_answered _ _ _ _ _ (λ n. (bytes.given n).fits) filled.0 filled.1
