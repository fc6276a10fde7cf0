-- `clamp_unit` is the clamp to 0..1: what was raised to 0 is not above 1. Assumes nothing.
use mathlib.Core.Path.{◌≡◌, refl}
use mathlib.Core.Bool.{Bool, true, false, cond}
use lib.Ieee.{Float, of_bits, lt}
use Rattle.exact.specs.Binary32.{zero₃₂, one₃₂}
use Rattle.math.specs.Formulas.{clamp_of}
use Rattle.curve.specs.Curve.{clamp_unit_of}
use Rattle.curve.proofs.clamp_unit.Goals as goal

raised_then_lowered : (x : Float) → cond (lt one₃₂ (cond (lt x zero₃₂) zero₃₂ x)) one₃₂ (cond (lt x zero₃₂) zero₃₂ x) ≡ clamp_unit_of x
unfolding clamp_of lt of_bits
raised_then_lowered x = go (lt x zero₃₂)
  where
    go : (b : Bool) → cond (lt one₃₂ (cond b zero₃₂ x)) one₃₂ (cond b zero₃₂ x) ≡ cond b zero₃₂ (cond (lt one₃₂ x) one₃₂ x)
    go true = refl
    go false = refl

pub returns : goal.returns
returns c = simp (c.lowered.ensures, c.raised.ensures) (raised_then_lowered _)
