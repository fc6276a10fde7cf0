-- WHAT HAS NO VALUE GIVES NONE: where a number that an exact height is worked from has no value, the exact height has none.
-- Two tables, each tested by computation: the functions that choose by a comparison or by a floor, at the fractions over 0; and
-- every setting that a height takes the value of, as a NaN. That each operation keeps it is `exact/proofs/Defined`. Assumes nothing.
use mathlib.Core.Bool.{Bool, true, false, ◌&&◌}
use mathlib.Core.List.{List, [], ◌∷◌}
use lib.Dec.{T, eqb}
use lib.Ieee.{Float, nan, of_bits, is_nan, lt, le, eq, add, sub, mul, div, neg, of_int}
use Rattle.exact.specs.Fraction.{Fraction, ratio, given, if_below, at_floor, negℚ}
use Rattle.exact.specs.Value.{value}
use Rattle.exact.specs.Binary32.{zero₃₂, half₃₂, one₃₂}
use Rattle.lists.proofs.Rows.{all_pass}
use Rattle.math.specs.Formulas.{min_of, clamp_of}
use Rattle.floor.specs.Formula.{floor_of, fract_of}
use Rattle.sine.specs.Formula.{sine_coefficients, half_of, quarter_of, sign_of, sine_of_angle, sine_of_quarter, sine_of_cycle, sin_turns_of}
use Rattle.series.specs.Horner.{horner, hornerℚ}
use Rattle.series.specs.Terms.{terms, factorial}
use Rattle.sine.specs.Exact.{halfℚ, quarterℚ, signℚ, sine_term, sine_terms, sine_of_angleℚ, sine_of_quarterℚ, sine_of_cycleℚ, sin_turnsℚ}
use Rattle.exp2.specs.Exact.{exp2_term, exp2_terms, exp2ℚ}
use Rattle.log2.specs.Exact.{log2ℚ, log2_over}
use Rattle.curve.specs.Curve.{position_of}
use Rattle.settings.specs.declared.LfoShape.{LfoShape}
use Rattle.settings.specs.declared.LfoShape.TheVariants.{Sine, Triangle, Square, RampUp, RampDown, SampleAndHold, SampleAndGlide}
use Rattle.settings.specs.declared.Pass.TheVariants.{Low}
use Rattle.settings.specs.declared.Filter.{Filter}
use Rattle.envelope.specs.Exact.{divideℚ, denominatorℚ, bentℚ, attackℚ, decayℚ, sustainℚ, releaseℚ, envelope_levelℚ, envelope_heightℚ}
use Rattle.fade.specs.Exact.{fadeℚ, fade_heightℚ}
use Rattle.oscillator.specs.Formula.{waves_of}
use Rattle.oscillator.specs.Exact.{sawℚ, pulseℚ, addedℚ, sumℚ, oscillatorℚ, oscillator_heightℚ}
use Rattle.noise.specs.Formula.{noise_at_of}
use Rattle.noise.specs.Exact.{noiseℚ, noise_heightℚ}
use Rattle.filter.specs.Exact.{mirroredℚ, octavesℚ, twice_polesℚ, squaredℚ, logℚ, distanceℚ, peakℚ, scaledℚ, filter_levelℚ, filter_heightℚ}
use Rattle.lfo_shapes.specs.Exact.{shapeℚ}
use Rattle.walk.specs.Formula.{step_of, place_of, full_from, full_steps}
use Rattle.walk.specs.Exact.{limitℚ, heldℚ, movedℚ, level_afterℚ, cut_afterℚ}
use Rattle.lfo.specs.Exact.{lfo_heightℚ}
use Rattle.generator.specs.declared.Shape.{Shape}
use Rattle.generator.specs.declared.Shape.TheVariants.{Envelope as AnEnvelope, Fade as AFade, Lfo as AnLfo, Filter as AFilter, Oscillator as AnOscillator, Noise as ANoise}
use Rattle.shape_heights.specs.Heights.{heightℚ}

none : Fraction → Bool
none a = eqb a.den 0

-- ---- at a NaN's fraction, and at 1 and -1 over 0, which by multiplying across lie above and below every number
choices : List (Fraction → Fraction)
choices =
    (λ a. fadeℚ a (ratio 1 2)) ∷ (λ a. fadeℚ (ratio 1 2) a)
    -- a position between two ends, the one end, the other, and a position where the ends are one
    ∷ (λ a. divideℚ a (ratio 0 1) (ratio 1 1)) ∷ (λ a. divideℚ (ratio 1 2) a (ratio 1 1))
    ∷ (λ a. divideℚ (ratio 1 2) (ratio 0 1) a) ∷ (λ a. divideℚ a (ratio 1 1) (ratio 1 1))
    ∷ halfℚ ∷ quarterℚ ∷ signℚ ∷ exp2ℚ ∷ log2ℚ ∷ limitℚ
    ∷ shapeℚ Sine ∷ shapeℚ Triangle ∷ shapeℚ Square ∷ shapeℚ RampUp ∷ shapeℚ RampDown
    ∷ shapeℚ SampleAndHold ∷ shapeℚ SampleAndGlide
    ∷ []

chooses_none : (Fraction → Fraction) → Bool
chooses_none f = none (f (ratio 0 0)) && (none (f (ratio 1 0)) && none (f (negℚ (ratio 1 0))))

none_chosen : T (all_pass chooses_none choices)
unfolding all_pass choices chooses_none none given if_below at_floor fadeℚ divideℚ hornerℚ terms factorial sine_term sine_terms sine_of_angleℚ sine_of_quarterℚ sine_of_cycleℚ sin_turnsℚ exp2_term exp2_terms exp2ℚ log2_over limitℚ shapeℚ
none_chosen = tt

-- ---- the exact height at 1/2 by one setting, all others being numbers, such that it is worked from that one
at : Shape → Fraction
at s = heightℚ s half₃₂

lfo : LfoShape → Float → Float → Fraction
lfo s turns slew = at (AnLfo (record { shape = s; turns = turns; slew = slew; unipolar = false; synced = false }))

envelope : Float → Float → Float → Float → Float → Float → Float → Float → Fraction
envelope first second third sustain end attack decay release =
    at (AnEnvelope (record { first = first; second = second; third = third; sustain = sustain; sustain_end = end; attack_bend = attack; decay_bend = decay; release_bend = release }))

filter : Float → Float → Float → Filter
filter slope resonance span = record { slope = slope; resonance = resonance; span = span; pass = Low }

settings : List (Float → Fraction)
unfolding at lfo envelope filter
settings =
    (λ x. at (AFade (record { end = x })))
    -- the ends, the levels, and each bend in its own stretch
    ∷ (λ x. envelope x one₃₂ one₃₂ one₃₂ one₃₂ one₃₂ one₃₂ one₃₂)
    ∷ (λ x. envelope zero₃₂ x one₃₂ one₃₂ one₃₂ one₃₂ one₃₂ one₃₂)
    ∷ (λ x. envelope zero₃₂ zero₃₂ x one₃₂ one₃₂ one₃₂ one₃₂ one₃₂)
    ∷ (λ x. envelope zero₃₂ zero₃₂ one₃₂ x one₃₂ one₃₂ one₃₂ one₃₂)
    ∷ (λ x. envelope zero₃₂ zero₃₂ one₃₂ one₃₂ x one₃₂ one₃₂ one₃₂)
    ∷ (λ x. envelope one₃₂ one₃₂ one₃₂ one₃₂ one₃₂ x one₃₂ one₃₂)
    ∷ (λ x. envelope zero₃₂ one₃₂ one₃₂ one₃₂ one₃₂ one₃₂ x one₃₂)
    ∷ (λ x. envelope zero₃₂ zero₃₂ zero₃₂ one₃₂ one₃₂ one₃₂ one₃₂ x)
    -- an LFO's turns, without slew and with
    ∷ (λ x. lfo Sine x zero₃₂) ∷ (λ x. lfo Triangle x zero₃₂) ∷ (λ x. lfo Square x zero₃₂) ∷ (λ x. lfo RampUp x zero₃₂)
    ∷ (λ x. lfo RampDown x zero₃₂) ∷ (λ x. lfo SampleAndHold x zero₃₂) ∷ (λ x. lfo SampleAndGlide x zero₃₂) ∷ (λ x. lfo Square x one₃₂)
    -- its slew
    ∷ (λ x. lfo Square one₃₂ x)
    -- a filter's slope and span; its resonance by the peak that is added to the roll-off
    ∷ (λ x. at (AFilter (filter x one₃₂ one₃₂))) ∷ (λ x. at (AFilter (filter one₃₂ one₃₂ x)))
    ∷ (λ x. scaledℚ (ratio 0 1) (peakℚ (filter one₃₂ x one₃₂) (ratio 0 1)))
    -- an oscillator's level, and a noise's
    ∷ (λ x. at (AnOscillator (record { saw = true; pulse = true; width = half₃₂; sweep = zero₃₂; level = x })))
    ∷ (λ x. at (ANoise (record { level = x })))
    ∷ []

without : (Float → Fraction) → Bool
without f = none (f nan)

no_height : T (all_pass without settings)
unfolding all_pass without settings at lfo envelope filter none heightℚ given if_below at_floor value of_bits of_int is_nan lt le eq neg add sub mul div clamp_of floor_of fract_of sine_coefficients half_of quarter_of sign_of sine_of_angle sine_of_quarter sine_of_cycle sin_turns_of position_of min_of horner hornerℚ terms factorial sine_term sine_terms sine_of_angleℚ sine_of_quarterℚ sine_of_cycleℚ sin_turnsℚ exp2_term exp2_terms exp2ℚ log2_over fadeℚ fade_heightℚ divideℚ denominatorℚ bentℚ attackℚ decayℚ sustainℚ releaseℚ envelope_levelℚ envelope_heightℚ shapeℚ limitℚ heldℚ movedℚ level_afterℚ cut_afterℚ step_of place_of full_from full_steps lfo_heightℚ mirroredℚ octavesℚ twice_polesℚ squaredℚ logℚ distanceℚ peakℚ scaledℚ filter_levelℚ filter_heightℚ waves_of sawℚ pulseℚ addedℚ sumℚ oscillatorℚ oscillator_heightℚ noise_at_of noiseℚ noise_heightℚ
no_height = tt
