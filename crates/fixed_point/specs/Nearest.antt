-- A HEIGHT AS A WHOLE NUMBER: docs/SPECIFICATION.md, "Written text". The number that the float holds is scaled exactly, and rounded once. Definitions only.
use Rattle.std.specs.Prelude.{ℕ, nat_abs, Float}
use Rattle.exact.specs.Fraction.{Fraction, ratio, floorℚ, ◌+ℚ◌, ◌*ℚ◌}
use Rattle.exact.specs.Value.{value}
use Rattle.curve.specs.Curve.{position_of}

-- The whole number nearest to a fraction that has a value and is not negative, and of two the larger.
-- What it gives for a fraction over 0 means nothing: it is asked of positions alone, and they have a value.
abbrev pub nearestℚ : Fraction → ℕ
nearestℚ a = nat_abs (floorℚ (a +ℚ ratio 1 2))

-- The whole number nearest to x times n, x as a position: a NaN is 0, and all else is clamped to 0..1.
unfoldable pub nearest_of : Float → ℕ → ℕ
nearest_of x n = nearestℚ (value (position_of x) *ℚ ratio n 1)
