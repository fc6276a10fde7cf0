-- HEIGHTS AND STEPS THAT ARE KNOWN BEFOREHAND: docs/SPECIFICATION.md, "Examples". One table: a shape, built from its bytes, a
-- position, and what its height must be there: the height's bits, with no step, or the steps of a walk. Assumes nothing.
use mathlib.Core.Bool.{Bool, false, ◌&&◌}
use mathlib.Core.List.{List, [], ◌∷◌}
use Prim.Native.Nat.{ℕ}
use lib.Dec.{T, eqb}
use lib.Ieee.{Float, binary32, of_bits, to_bits, of_int, to_unsigned, is_nan, lt, le, neg, add, sub, mul, div}
use Rattle.exact.specs.Value.{value}
use Rattle.exact.specs.Binary32.{zero₃₂, quarter₃₂, half₃₂, one₃₂}
use Rattle.series.specs.Horner.{horner}
use Rattle.math.specs.Formulas.{clamp_of}
use Rattle.floor.specs.Formula.{floor_of, fract_of}
use Rattle.exp2.specs.Formula.{exp2_scale, exp2_coefficients, exp2_within, exp2_of}
use Rattle.lists.proofs.Rows.{all_pass}
use Rattle.curve.specs.declared.Height.{Height}
use Rattle.curve.specs.Curve.{position_of, drawn_of}
use Rattle.settings.specs.Settings.{byte_of, lfo_shape_of, lfo_of, turned_lfo, fade_of, depth_of, width_of, sweep_of, oscillator_one_of, oscillator_two_of}
use Rattle.bends.specs.Formula.{bend_of}
use Rattle.envelope_settings.specs.Formula.{total_of, first_of, second_of, third_of, slope_of, sloped, sustain_end_of, envelope_of}
use Rattle.envelope.specs.Formula.{divide_of, denominator_of, bent_unit, bent_of, attack_of, decay_of, sustain_of, release_of, envelope_level_of, envelope_height_of}
use Rattle.fade.specs.Formula.{fade_level_of, fade_height_of}
use Rattle.oscillator.specs.Formula.{saw_of, pulse_of, added_of, sum_of, waves_of, oscillator_level_of, oscillator_height_of}
use Rattle.lfo_shapes.specs.Formula.{wrap_of, samples, sample_of, index_of, sampled_of, triangle_of, square_of, ramp_up_of, glide_of, shape_at_of}
use Rattle.walk.specs.Formula.{step_of, place_of, full_from, full_steps, walked_of}
use Rattle.lfo.specs.Formula.{lfo_height_of}
use Rattle.settings.specs.declared.SampledTurns.TheVariants.{Eight}
use Rattle.generator.specs.declared.Shape.{Shape}
use Rattle.generator.specs.declared.Shape.TheVariants.{Envelope as AnEnvelope, Fade as AFade, Lfo as AnLfo, Oscillator as AnOscillator}
use Rattle.shape_heights.specs.Heights.{height_of}
use Rattle.turns.specs.Turns.{turned_of}

-- ---- shapes
-- the LFO of a shape's and a slew's byte
lfo : ℕ → ℕ → Shape
lfo shape slew = AnLfo (lfo_of shape slew 0 false)

-- the same at eight turns
eight : ℕ → ℕ → Shape
eight shape slew = turned_of Eight (lfo shape slew)

-- the envelope whose times are 0 and whose sustain is 255, by its sustain's curve
held : ℕ → Shape
held curve = AnEnvelope (envelope_of 0 0 255 0 0 0 curve 0)

-- oscillator 1 with both waves off
silent : Shape
silent = AnOscillator (oscillator_one_of 0 0 0 0)

-- ---- what is known of a height: its bits, and that it took no step; or its steps
drawn : ℕ → Height → Bool
drawn b h = eqb (to_bits binary32 h.height) b && eqb h.steps 0

walked : ℕ → Height → Bool
walked k h = eqb h.steps k

rows : List (Shape × Float × (Height → Bool))
rows =
    -- fade byte 0: the height is 1
    (AFade (fade_of 0), zero₃₂, drawn 0x3f80_0000) ∷ (AFade (fade_of 0), one₃₂, drawn 0x3f80_0000)
    -- triangle: 0, 0.5, 1 and 0
    ∷ (lfo 1 0, zero₃₂, drawn 0x0000_0000) ∷ (lfo 1 0, quarter₃₂, drawn 0x3f00_0000)
    ∷ (lfo 1 0, half₃₂, drawn 0x3f80_0000) ∷ (lfo 1 0, one₃₂, drawn 0x0000_0000)
    -- ramp up: 0 and 1; square: 1, 0 and 0
    ∷ (lfo 3 0, zero₃₂, drawn 0x0000_0000) ∷ (lfo 3 0, one₃₂, drawn 0x3f80_0000)
    ∷ (lfo 2 0, zero₃₂, drawn 0x3f80_0000) ∷ (lfo 2 0, half₃₂, drawn 0x0000_0000) ∷ (lfo 2 0, one₃₂, drawn 0x0000_0000)
    -- hold: 0.72, 0.41 and 0.31; glide: 0.86 and 0.63
    ∷ (lfo 5 0, zero₃₂, drawn 0x3f38_51ec) ∷ (lfo 5 0, half₃₂, drawn 0x3ed1_eb85) ∷ (lfo 5 0, one₃₂, drawn 0x3e9e_b852)
    ∷ (lfo 6 0, zero₃₂, drawn 0x3f5c_28f6) ∷ (lfo 6 0, one₃₂, drawn 0x3f21_47ae)
    -- at eight turns as at 0: 0.72 and 0.86; a sine keeps its one turn
    ∷ (eight 5 0, one₃₂, drawn 0x3f38_51ec) ∷ (eight 6 0, one₃₂, drawn 0x3f5c_28f6) ∷ (eight 0 1, one₃₂, walked 192)
    -- steps, at slew byte 1: of the sine 96 and 192, of hold 96 and 672, and 864 at eight turns
    ∷ (lfo 0 1, zero₃₂, walked 96) ∷ (lfo 0 1, one₃₂, walked 192) ∷ (lfo 5 1, zero₃₂, walked 96) ∷ (lfo 5 1, one₃₂, walked 672) ∷ (eight 5 1, one₃₂, walked 864)
    -- sustain curve 0: 0.5 halfway, and 0 at the end; 255: 1 at the end
    ∷ (held 0, half₃₂, drawn 0x3f00_0000) ∷ (held 0, one₃₂, drawn 0x0000_0000) ∷ (held 255, one₃₂, drawn 0x3f80_0000)
    -- both waves off: 0.5 throughout; oscillator 2 at level 255: 1 and 0
    ∷ (silent, zero₃₂, drawn 0x3f00_0000) ∷ (silent, half₃₂, drawn 0x3f00_0000) ∷ (silent, one₃₂, drawn 0x3f00_0000)
    ∷ (AnOscillator (oscillator_two_of 255), zero₃₂, drawn 0x3f80_0000) ∷ (AnOscillator (oscillator_two_of 255), half₃₂, drawn 0x0000_0000)
    ∷ []

known : Shape × Float × (Height → Bool) → Bool
known r = r.2 (height_of r.0 r.1)

-- and fade byte 0 ends at 0
heights_known : T (eqb (to_bits binary32 (fade_of 0).end) 0 && all_pass known rows)
unfolding all_pass known rows lfo eight turned_of turned_lfo held silent drawn walked height_of to_bits of_bits of_int to_unsigned is_nan lt le neg add sub mul div value horner clamp_of floor_of fract_of exp2_scale exp2_coefficients exp2_within exp2_of position_of drawn_of byte_of total_of first_of second_of third_of slope_of sloped sustain_end_of bend_of envelope_of lfo_shape_of lfo_of fade_of depth_of width_of sweep_of oscillator_one_of oscillator_two_of divide_of denominator_of bent_unit bent_of attack_of decay_of sustain_of release_of envelope_level_of envelope_height_of fade_level_of fade_height_of saw_of pulse_of added_of sum_of waves_of oscillator_level_of oscillator_height_of wrap_of samples sample_of index_of sampled_of triangle_of square_of ramp_up_of glide_of shape_at_of step_of place_of full_from full_steps walked_of lfo_height_of
heights_known = tt
