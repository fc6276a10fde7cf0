-- THE EXACT SHAPES: docs/SPECIFICATION.md, "Exact heights". Each is a function of the phase's value; nothing here is rounded. The samples are the numbers
-- that their floats hold. Definitions only.
use Rattle.std.specs.Prelude.{ℕ, ℤ, pos, nat_abs, ◌-ℤ◌, ◌*ℤ◌, get_or}
use Rattle.exact.specs.Fraction.{Fraction, ratio, floor_over, if_below, at_floor, ◌+ℚ◌, ◌-ℚ◌, ◌*ℚ◌}
use Rattle.exact.specs.Value.{value}
use Rattle.exact.specs.Binary32.{half₃₂}
use Rattle.floor.specs.Exact.{fractℚ}
use Rattle.sine.specs.Exact.{sin_turnsℚ}
use Rattle.settings.specs.declared.LfoShape.{LfoShape}
use Rattle.settings.specs.declared.LfoShape.TheVariants.{Sine, Triangle, Square, RampUp, RampDown, SampleAndHold, SampleAndGlide}
use Rattle.lfo_shapes.specs.Formula.{samples}

-- What a phase has above its floor, and 1 where the phase is above 0 and whole.
abbrev pub wrapℚ : Fraction → Fraction
wrapℚ P = if_below (ratio 0 1) P (if_below (ratio 0 1) (fractℚ P) (fractℚ P) (ratio 1 1)) (fractℚ P)

-- The remainder of a cycle's number by 8, from 0 to 7, and the sample that it names.
abbrev pub remainder : ℤ → ℕ
remainder z = nat_abs (z -ℤ floor_over z 8 *ℤ pos 8)

unfoldable pub sampleℚ : ℤ → Fraction
sampleℚ z = value (get_or samples (remainder z) half₃₂)

abbrev pub sineℚ : Fraction → Fraction
sineℚ P = ratio 1 2 +ℚ ratio 1 2 *ℚ sin_turnsℚ P

abbrev pub triangleℚ : Fraction → Fraction
triangleℚ P = if_below (wrapℚ P) (ratio 1 2) (ratio 2 1 *ℚ wrapℚ P) (ratio 2 1 -ℚ ratio 2 1 *ℚ wrapℚ P)

abbrev pub squareℚ : Fraction → Fraction
squareℚ P = if_below (wrapℚ P) (ratio 1 2) (ratio 1 1) (ratio 0 1)

abbrev pub ramp_upℚ : Fraction → Fraction
ramp_upℚ P = wrapℚ P

abbrev pub ramp_downℚ : Fraction → Fraction
ramp_downℚ P = ratio 1 1 -ℚ wrapℚ P

abbrev pub holdℚ : Fraction → Fraction
holdℚ P = at_floor sampleℚ P

-- From the sample of the cycle before, by the part of the cycle that has gone.
abbrev pub previousℚ : Fraction → Fraction
previousℚ P = at_floor (λ z. sampleℚ (z -ℤ pos 1)) P

abbrev pub glideℚ : Fraction → Fraction
glideℚ P = previousℚ P +ℚ (holdℚ P -ℚ previousℚ P) *ℚ fractℚ P

-- A shape's exact level at a phase, with no limit on its slope.
unfoldable pub shapeℚ : LfoShape → Fraction → Fraction
shapeℚ Sine P = sineℚ P
shapeℚ Triangle P = triangleℚ P
shapeℚ Square P = squareℚ P
shapeℚ RampUp P = ramp_upℚ P
shapeℚ RampDown P = ramp_downℚ P
shapeℚ SampleAndHold P = holdℚ P
shapeℚ SampleAndGlide P = glideℚ P
