-- WHAT IS PROMISED OF THE HEIGHT OF TAPS: docs/SPECIFICATION.md, "The three demands". Definitions only.
use Rattle.std.specs.Prelude.{◌≡◌, ℕ, ◌<◌, T, Float}
use Rattle.std.specs.Float.Ieee.{le}
use Rattle.std.specs.Float.Ieee.Scale.{finite}
use Rattle.exact.specs.Binary32.{zero₃₂, one₃₂}
use Rattle.exact.specs.Fraction.{ratio}
use Rattle.curve.specs.declared.Height.{Height}
use Rattle.curve.specs.Curve.{Drawn}
use Rattle.taps.specs.declared.Taps.{Taps}
use Rattle.taps.specs.Formula.{used_of, at_of, tall_of, taps_height_of}
use Rattle.taps.specs.Exact.{taps_heightℚ}

-- Every tap that is used falls at a number, and its height is a number from 0 to 1; the others may hold anything.
pub record TapsInRange (taps : Taps) : Type 0 where
  pub at : (i : ℕ) → i < used_of taps → T (finite (at_of taps i))
  pub from : (i : ℕ) → i < used_of taps → T (le zero₃₂ (tall_of taps i))
  pub to : (i : ℕ) → i < used_of taps → T (le (tall_of taps i) one₃₂)

-- The height is the formula's, with no steps, and is a number from 0 to 1 whatever the taps hold. Of such taps it is within 1 / 262,144 of the exact height.
pub record TapsAnswered (taps : Taps) (t : Float) (r : Height) : Type 0 where
  pub equation : r ≡ taps_height_of taps t
  pub from : T (le zero₃₂ r.height)
  pub to : T (le r.height one₃₂)
  pub steps : r.steps ≡ 0
  pub near : TapsInRange taps → Drawn r.height (taps_heightℚ taps t) (ratio 1 262144)
