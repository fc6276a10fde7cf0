-- THE EXACT HEIGHT OF THE OSCILLATOR: docs/SPECIFICATION.md, "Exact heights". The position, clamped, and the stored settings are the numbers that their floats hold; the pulse takes
-- the side that the float comparison takes. Nothing else is rounded. Definitions only.
use Rattle.std.specs.Prelude.{Bool, cond, eqb, pos, negsuc, Float}
use Rattle.std.specs.Float.Ieee.{lt}
use Rattle.exact.specs.Fraction.{Fraction, ratio, whole, clamp_unitℚ, ◌+ℚ◌, ◌-ℚ◌, ◌*ℚ◌, ◌/ℚ◌}
use Rattle.exact.specs.Value.{value}
use Rattle.curve.specs.Curve.{position_of}
use Rattle.settings.specs.declared.Oscillator.{Oscillator}
use Rattle.oscillator.specs.Formula.{waves_of}

unfoldable pub sawℚ : Fraction → Fraction
sawℚ P = P *ℚ ratio 2 1 -ℚ ratio 1 1

-- 1 on the side below the width, -1 on the other. No position is below a width that is a NaN.
unfoldable pub pulseℚ : Bool → Fraction
pulseℚ below = cond below (whole (pos 1)) (whole (negsuc 0))

unfoldable pub addedℚ : Bool → Fraction → Fraction → Fraction
addedℚ on sum wave = cond on (sum +ℚ wave) sum

unfoldable pub sumℚ : Oscillator → Float → Fraction
sumℚ o p = addedℚ o.pulse (addedℚ o.saw (ratio 0 1) (sawℚ (value p))) (pulseℚ (lt p o.width))

unfoldable pub oscillatorℚ : Oscillator → Float → Fraction
oscillatorℚ o p = cond (eqb (waves_of o) 0) (ratio 1 2) (ratio 1 2 +ℚ ratio 1 2 *ℚ value o.level *ℚ sumℚ o p /ℚ ratio (waves_of o) 1)

unfoldable pub oscillator_heightℚ : Oscillator → Float → Fraction
oscillator_heightℚ o t = clamp_unitℚ (oscillatorℚ o (position_of t))
