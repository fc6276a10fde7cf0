-- THE EXACT HEIGHT OF THE FADE: docs/SPECIFICATION.md, "Exact heights". The position, clamped, and the stored end are the numbers that their floats hold. Nothing else is rounded.
-- Definitions only.
use Rattle.std.specs.Prelude.{Float}
use Rattle.exact.specs.Fraction.{Fraction, ratio, if_below, clamp_unitℚ, ◌/ℚ◌}
use Rattle.exact.specs.Value.{value}
use Rattle.curve.specs.Curve.{position_of}
use Rattle.settings.specs.declared.Fade.{Fade}

-- Of the end E and the position P.
unfoldable pub fadeℚ : Fraction → Fraction → Fraction
fadeℚ E P = if_below P E (P /ℚ E) (ratio 1 1)

unfoldable pub fade_heightℚ : Fade → Float → Fraction
fade_heightℚ f t = clamp_unitℚ (fadeℚ (value f.end) (value (position_of t)))
