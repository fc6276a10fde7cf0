-- THE EXACT HEIGHT OF A FILTER: docs/SPECIFICATION.md, "Exact heights". Nothing here is rounded but the settings and the position that it is given. Definitions only.
use Rattle.std.specs.Prelude.{negsuc, Float}
use Rattle.exact.specs.Fraction.{Fraction, ratio, whole, negℚ, clamp_unitℚ, ◌+ℚ◌, ◌-ℚ◌, ◌*ℚ◌, ◌/ℚ◌}
use Rattle.exact.specs.Value.{value}
use Rattle.exp2.specs.Exact.{exp2ℚ}
use Rattle.log2.specs.Exact.{log2ℚ}
use Rattle.curve.specs.Curve.{position_of}
use Rattle.settings.specs.declared.Pass.{Pass}
use Rattle.settings.specs.declared.Pass.TheVariants.{Low, High}
use Rattle.settings.specs.declared.Filter.{Filter}

-- octaves from the corner, which is at one half: a high-pass counts them the other way
unfoldable pub mirroredℚ : Pass → Fraction → Fraction
mirroredℚ Low o = o
mirroredℚ High o = negℚ o

unfoldable pub octavesℚ : Filter → Fraction → Fraction
octavesℚ f t = mirroredℚ f.pass ((t -ℚ ratio 1 2) *ℚ ratio 2 1 *ℚ value f.span)

-- twice the poles, 6 decibels to an octave being one; and the exponent of the squared term
unfoldable pub twice_polesℚ : Fraction → Fraction
twice_polesℚ slope = ratio 2 1 *ℚ (slope /ℚ ratio 6 1)

unfoldable pub squaredℚ : Filter → Fraction → Fraction
squaredℚ f o = twice_polesℚ (value f.slope) *ℚ o

-- the logarithm of 1 + 2 ^ s, whatever s is
unfoldable pub logℚ : Fraction → Fraction
logℚ s = log2ℚ (ratio 1 1 +ℚ exp2ℚ s)

-- the resonant peak
unfoldable pub distanceℚ : Filter → Fraction → Fraction
distanceℚ f o = o *ℚ (ratio 2 1 +ℚ value f.resonance *ℚ ratio 6 1)

unfoldable pub peakℚ : Filter → Fraction → Fraction
peakℚ f d = value f.resonance *ℚ ratio 12 1 /ℚ (ratio 1 1 +ℚ d *ℚ d)

-- half the power, in decibels: the exact number that the f32 of -3.0103 holds
abbrev pub half_powerℚ : Fraction
half_powerℚ = negℚ (ratio 12626113 4194304)

-- from -48..12 decibels to 0..1
unfoldable pub scaledℚ : Fraction → Fraction → Fraction
scaledℚ log peak = (half_powerℚ *ℚ log +ℚ peak -ℚ whole (negsuc 47)) /ℚ ratio 60 1

unfoldable pub filter_levelℚ : Filter → Fraction → Fraction
filter_levelℚ f t = scaledℚ (logℚ (squaredℚ f (octavesℚ f t))) (peakℚ f (distanceℚ f (octavesℚ f t)))

unfoldable pub filter_heightℚ : Filter → Float → Fraction
filter_heightℚ f t = clamp_unitℚ (filter_levelℚ f (value (position_of t)))
