-- A TAP'S HEIGHT BY ONE COMPARISON IS ITS HEIGHT, where the height so far is +0 or a number above 0. Assumes nothing.
use mathlib.Core.Path.{◌≡◌, ap}
use mathlib.Core.Bool.{cond}
use lib.Ieee.{Float, lt}
use Rattle.exact.specs.Binary32.{◌⊖◌}
use Rattle.math.specs.Formulas.{abs_of}
use Rattle.taps.specs.Formula.{tap_width, spike_of, tap_height_of, tap_raised_of}
use Rattle.taps.proofs.Larger.{Raised, larger}

pub raised_is : (at tall t h : Float) → Raised h → tap_raised_of at tall t h ≡ tap_height_of at tall t h
unfolding tap_raised_of tap_height_of
raised_is at tall t h r = ap (λ x. cond (lt (abs_of (t ⊖ at)) tap_width) x h) (larger h (spike_of tall (abs_of (t ⊖ at))) r)
