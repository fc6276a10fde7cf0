-- `sustain_end` is `sustain_end_of`: a branch for each sign of the slope. Assumes nothing.
use Rattle.envelope_settings.specs.Formula.{sustain_end_of, sloped, slope_of}
use Rattle.envelope_settings.proofs.sustain_end.Goals as goal

pub returns-then-slope : goal.returns-then-slope
unfolding sustain_end_of sloped slope_of
returns-then-slope c =
    simp (c.byte-from.ensures, c.byte.ensures, simp c.byte.ensures at c.if-slope.true)

pub returns : goal.returns
unfolding sustain_end_of sloped slope_of
returns c =
    simp (c.byte-from.ensures, c.byte.ensures, simp c.byte.ensures at c.if-slope.false)
