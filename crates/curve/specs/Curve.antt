-- WHAT EVERY CURVE SHARES: docs/SPECIFICATION.md, "Positions and heights". Definitions only.
use Rattle.std.specs.Prelude.{cond, T, Float}
use Rattle.std.specs.Float.Ieee.{is_nan, le}
use Rattle.exact.specs.Fraction.{Fraction}
use Rattle.exact.specs.Value.{value, Within}
use Rattle.exact.specs.Binary32.{zero₃₂, one₃₂}
use Rattle.math.specs.Formulas.{clamp_of}
use Rattle.curve.specs.declared.Height.{Height}

-- A clamp to 0..1.
abbrev pub clamp_unit_of : Float → Float
clamp_unit_of x = clamp_of zero₃₂ one₃₂ x

-- A NaN is position 0; all else is clamped to 0..1.
unfoldable pub position_of : Float → Float
position_of t = cond (is_nan t) zero₃₂ (clamp_unit_of t)

-- The height of a curve that takes no steps: its level, clamped to 0..1.
unfoldable pub drawn_of : Float → Height
drawn_of x = record { height = clamp_unit_of x; steps = 0 }

-- DEMAND 3 of a height h and its exact height X: h is a number from 0 to 1, X is a number, and the two differ by at most q.
pub record Drawn (h : Float) (X q : Fraction) : Type 0 where
  pub from : T (le zero₃₂ h)
  pub to : T (le h one₃₂)
  pub near : Within (value h) X q
