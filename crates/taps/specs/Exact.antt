-- THE EXACT HEIGHT OF AN IMPULSE TRAIN: docs/SPECIFICATION.md, "Exact heights". The position, clamped, the taps and the tapWidth are the numbers that their floats
-- hold, and whether a tap reaches a position is decided by the float comparison. Nothing else is rounded. Definitions only.
use Rattle.std.specs.Prelude.{cond, ℕ, zero, suc, Float}
use Rattle.std.specs.Float.Ieee.{lt}
use Rattle.exact.specs.Fraction.{Fraction, ratio, absℚ, maxℚ, clamp_unitℚ, ◌-ℚ◌, ◌*ℚ◌, ◌/ℚ◌}
use Rattle.exact.specs.Value.{value}
use Rattle.exact.specs.Binary32.{◌⊖◌}
use Rattle.math.specs.Formulas.{abs_of}
use Rattle.curve.specs.Curve.{position_of}
use Rattle.taps.specs.declared.Taps.{Taps}
use Rattle.taps.specs.Formula.{tap_width, used_of, at_of, tall_of}

-- A spike, of a height H at a distance D.
abbrev pub spikeℚ : Fraction → Fraction → Fraction
spikeℚ H D = H *ℚ (ratio 1 1 -ℚ D /ℚ value tap_width)

-- The height so far with one tap more. A tap at a NaN reaches nothing, and so adds nothing; one that reaches, and whose
-- height is a NaN, leaves no value.
unfoldable pub tap_heightℚ : Float → Float → Float → Fraction → Fraction
tap_heightℚ at tall p height = cond (lt (abs_of (p ⊖ at)) tap_width) (maxℚ height (spikeℚ (value tall) (absℚ (value p -ℚ value at)))) height

-- The level of the first i taps, from 0 on.
unfoldable pub taps_levelℚ : Taps → Float → ℕ → Fraction
taps_levelℚ taps p zero = ratio 0 1
taps_levelℚ taps p (suc i) = tap_heightℚ (at_of taps i) (tall_of taps i) p (taps_levelℚ taps p i)

unfoldable pub taps_heightℚ : Taps → Float → Fraction
taps_heightℚ taps t = clamp_unitℚ (taps_levelℚ taps (position_of t) (used_of taps))
