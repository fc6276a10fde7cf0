-- `generator_strip` answers as `strip_once_answer` says and leaves what `strip_after` says: a length that fits is filled, another is refused. Assumes nothing.
use Rattle.block_strip.specs.Strips.{strip_after}
use Rattle.block_strip_once.specs.Strips.{strip_once_answer}
use Rattle.strip.proofs.Lengths.{between}
use Rattle.strip.specs.Strip.{strip_of}
use mathlib.Core.Path.{sym, ◌∙◌}
use Rattle.block_strip_once.proofs.generator_strip.Goals as goal

pub returns-then-not-fits : goal.returns-then-not-fits
unfolding strip_once_answer strip_after strip_of
returns-then-not-fits c = let unfit = sym c.fits.ensures ∙ c.if-not-fits.true in (simp unfit, simp unfit)

pub fill_once-requires : goal.fill_once-requires
fill_once-requires c = record { shape_forward = c.requires; fits = between _ c.fits.ensures c.if-not-fits.false }

pub returns : goal.returns
unfolding strip_once_answer strip_after strip_of
returns c =
    let fits = sym c.fits.ensures ∙ c.if-not-fits.false in
    let filled = c.fill_once.ensures in
    (simp (fits, filled.0), simp (fits, filled.1))
