-- A HEIGHT BETWEEN TWO WHOLE NUMBERS OF 2^-32: docs/SPECIFICATION.md, "The checklist". The unit is 2^-32, and nothing is rounded. Definitions only.
use Rattle.std.specs.Prelude.{Bool, false, not, cond, ◌&&◌, ℕ, ◌^◌, Float}
use Rattle.std.specs.Float.Ieee.{le}
use Rattle.std.specs.Float.Ieee.Scale.{finite}
use Rattle.exact.specs.Fraction.{Fraction, ratio, ltℚ}
use Rattle.exact.specs.Value.{value}
use Rattle.exact.specs.Binary32.{zero₃₂, one₃₂}

-- n units.
abbrev pub units : ℕ → Fraction
units n = ratio n (2 ^ 32)

-- x is a number, what it holds is not below low units, and high units are not below it.
-- A NaN and an infinity lie nowhere.
unfoldable pub between_of : Float → ℕ → ℕ → Bool
between_of x low high = finite x && (not (ltℚ (value x) (units low)) && not (ltℚ (units high) (value x)))

-- x is a number from 0 to 1, and lies from low units to high units.
unfoldable pub within_of : Float → ℕ → ℕ → Bool
within_of x low high = cond (le zero₃₂ x) (cond (le x one₃₂) (between_of x low high) false) false
