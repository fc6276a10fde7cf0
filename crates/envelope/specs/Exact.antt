-- THE ENVELOPE'S EXACT HEIGHT: docs/SPECIFICATION.md, "Exact heights". The ends, levels and bends are the numbers that the settings hold, and the position is the number that
-- `position_of` gives; all else is a fraction, and nothing is rounded. Definitions only.
use Rattle.std.specs.Prelude.{pos, Float}
use Rattle.exact.specs.Fraction.{Fraction, whole, clamp_unitℚ, given, if_below, ◌+ℚ◌, ◌-ℚ◌, ◌*ℚ◌, ◌/ℚ◌}
use Rattle.exact.specs.Value.{value}
use Rattle.curve.specs.Curve.{position_of}
use Rattle.settings.specs.declared.Envelope.{Envelope}

-- Where t lies between two ends, clamped to 0..1: in a stretch of no width 0, if t has a value at all.
unfoldable pub divideℚ : Fraction → Fraction → Fraction → Fraction
divideℚ t from to = if_below from to (clamp_unitℚ ((t -ℚ from) /ℚ (to -ℚ from))) (given t.den (whole (pos 0)))

-- The denominator of a bend: above 0 for a u from 0 to 1 and a k above 0.
unfoldable pub denominatorℚ : Fraction → Fraction → Fraction
denominatorℚ u k = u +ℚ k *ℚ (whole (pos 1) -ℚ u)

-- A position along a stretch, clamped to 0..1 and bent by k: u / (u + k (1 - u)).
unfoldable pub bentℚ : Fraction → Fraction → Fraction
bentℚ u k = clamp_unitℚ u /ℚ denominatorℚ (clamp_unitℚ u) k

-- The four stretches, at a position t.
unfoldable pub attackℚ : Envelope → Fraction → Fraction
attackℚ e t = bentℚ (divideℚ t (whole (pos 0)) (value e.first)) (value e.attack_bend)

unfoldable pub decayℚ : Envelope → Fraction → Fraction
decayℚ e t = whole (pos 1) +ℚ (value e.sustain -ℚ whole (pos 1)) *ℚ bentℚ (divideℚ t (value e.first) (value e.second)) (value e.decay_bend)

unfoldable pub sustainℚ : Envelope → Fraction → Fraction
sustainℚ e t = value e.sustain +ℚ (value e.sustain_end -ℚ value e.sustain) *ℚ divideℚ t (value e.second) (value e.third)

unfoldable pub releaseℚ : Envelope → Fraction → Fraction
releaseℚ e t = value e.sustain_end *ℚ (whole (pos 1) -ℚ bentℚ (divideℚ t (value e.third) (whole (pos 1))) (value e.release_bend))

-- The level at t: that of the first stretch whose end t is below, and past the third end the release.
unfoldable pub envelope_levelℚ : Envelope → Fraction → Fraction
envelope_levelℚ e t =
    if_below t (value e.first) (attackℚ e t)
    (if_below t (value e.second) (decayℚ e t)
    (if_below t (value e.third) (sustainℚ e t) (releaseℚ e t)))

-- The height at any f32, clamped to 0..1.
unfoldable pub envelope_heightℚ : Envelope → Float → Fraction
envelope_heightℚ e t = clamp_unitℚ (envelope_levelℚ e (value (position_of t)))
