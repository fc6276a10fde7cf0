-- `low_pass_slope` is `pole_slope_of`. Assumes nothing.
use borrow.Author.Tests.{ne_eqb}
use Rattle.settings.specs.Settings.{pole_slope_of}
use Rattle.settings.proofs.low_pass_slope.Goals as goal

pub returns-in-0 : goal.returns-in-0
unfolding pole_slope_of
returns-in-0 c = simp c.in-0.is

pub returns-in-1 : goal.returns-in-1
unfolding pole_slope_of
returns-in-1 c = simp c.in-1.is

pub returns-in-2-to-255 : goal.returns-in-2-to-255
unfolding pole_slope_of
returns-in-2-to-255 c = simp (ne_eqb _ _ c.in-2-to-255.in-2-to-255-own.rest.1)
