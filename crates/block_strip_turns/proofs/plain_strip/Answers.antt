-- `plain_strip` answers as `strip_answer` says and leaves what `strip_after` says: a length that fits is filled, another is refused. Assumes nothing.
use Rattle.block_strip.specs.Strips.{strip_answer, strip_after}
use Rattle.strip.proofs.Lengths.{between}
use Rattle.strip.specs.Strip.{steps_of, strip_of}
use mathlib.Core.Path.{sym, ◌∙◌}
use Rattle.block_strip_turns.proofs.plain_strip.Goals as goal

pub returns-then-not-fits : goal.returns-then-not-fits
unfolding strip_answer strip_after strip_of
returns-then-not-fits c = let unfit = sym c.fits.ensures ∙ c.if-not-fits.true in (simp unfit, simp unfit)

pub fill-requires : goal.fill-requires
fill-requires c = between _ c.fits.ensures c.if-not-fits.false

pub returns : goal.returns
unfolding strip_answer strip_after steps_of strip_of
returns c =
    let fits = sym c.fits.ensures ∙ c.if-not-fits.false in
    let filled = c.fill.ensures in
    (simp (fits, filled.0), simp (fits, filled.1))
