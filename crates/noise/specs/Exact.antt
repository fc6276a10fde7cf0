-- THE EXACT HEIGHT OF THE NOISE: docs/SPECIFICATION.md, "Exact heights". The stored level, and the scatter at the clamped position, are the numbers that their floats hold. Nothing else
-- is rounded. Definitions only.
use Rattle.std.specs.Prelude.{Float}
use Rattle.exact.specs.Fraction.{Fraction, ratio, clamp_unitℚ, ◌+ℚ◌, ◌-ℚ◌, ◌*ℚ◌}
use Rattle.exact.specs.Value.{value}
use Rattle.curve.specs.Curve.{position_of}
use Rattle.settings.specs.declared.Noise.{Noise}
use Rattle.noise.specs.Formula.{noise_at_of}

-- Of the level L and the scatter S.
unfoldable pub noiseℚ : Fraction → Fraction → Fraction
noiseℚ L S = ratio 1 2 +ℚ (S -ℚ ratio 1 2) *ℚ L

unfoldable pub noise_heightℚ : Noise → Float → Fraction
noise_heightℚ n t = clamp_unitℚ (noiseℚ (value n.level) (value (noise_at_of (position_of t))))
