-- THE SETTINGS, FROM BYTES: docs/SPECIFICATION.md, "Settings". Each is a function of its own bytes, in binary32, one rounding to an operation, in the
-- order written. A byte is a natural number below 256. Definitions only.
use Rattle.std.specs.Prelude.{Bool, true, false, not, cond, ◌||◌, ℕ, eqb, ltb, pos, Float}
use Rattle.std.specs.Float.{binary32}
use Rattle.std.specs.Float.Ieee.{of_int}
use Rattle.exact.specs.Binary32.{◌⊕◌, ◌⊗◌, ◌⊘◌, bits, zero₃₂, half₃₂, one₃₂}
use Rattle.settings.specs.declared.LfoShape.{LfoShape}
use Rattle.settings.specs.declared.LfoShape.TheVariants.{Sine, Triangle, Square, RampUp, RampDown, SampleAndHold, SampleAndGlide}
use Rattle.settings.specs.declared.SampledTurns.{SampledTurns}
use Rattle.settings.specs.declared.SampledTurns.TheVariants.{Six, Eight}
use Rattle.settings.specs.declared.Lfo.{Lfo}
use Rattle.settings.specs.declared.Fade.{Fade}
use Rattle.settings.specs.declared.Pass.TheVariants.{Low, High}
use Rattle.settings.specs.declared.Filter.{Filter}
use Rattle.settings.specs.declared.Oscillator.{Oscillator}
use Rattle.settings.specs.declared.Noise.{Noise}

-- b / 255
unfoldable pub byte_of : ℕ → Float
byte_of b = of_int binary32 (pos b) ⊘ bits 0x437f_0000

-- ---- LFO
-- 0 to 6 name a shape; 7 to 255 are Sine.
unfoldable pub lfo_shape_of : ℕ → LfoShape
lfo_shape_of b =
    cond (eqb b 1) Triangle
    (cond (eqb b 2) Square
    (cond (eqb b 3) RampUp
    (cond (eqb b 4) RampDown
    (cond (eqb b 5) SampleAndHold
    (cond (eqb b 6) SampleAndGlide Sine)))))

-- How many cycles of a sampled shape are drawn, 6 or 8: the number, and as a float.
abbrev pub turns_number : SampledTurns → ℕ
turns_number Six = 6
turns_number Eight = 8

abbrev pub sampled_turns : SampledTurns → Float
sampled_turns Six = bits 0x40c0_0000
sampled_turns Eight = bits 0x4100_0000

-- The cycles that are drawn of a shape: one of those that are not sampled.
abbrev pub turns_of : SampledTurns → LfoShape → Float
turns_of n Sine = one₃₂
turns_of n Triangle = one₃₂
turns_of n Square = one₃₂
turns_of n RampUp = one₃₂
turns_of n RampDown = one₃₂
turns_of n SampleAndHold = sampled_turns n
turns_of n SampleAndGlide = sampled_turns n

-- A switch is on where its byte is not 0.
abbrev pub is_on : ℕ → Bool
is_on b = not (eqb b 0)

-- A sampled shape has 6 turns.
unfoldable pub lfo_of : ℕ → ℕ → ℕ → Bool → Lfo
lfo_of shape slew sync unipolar = record { shape = lfo_shape_of shape; turns = turns_of Six (lfo_shape_of shape); slew = byte_of slew; unipolar = unipolar; synced = is_on sync }

-- The same LFO at n turns of the sampled shapes: those of its own shape. All else stays.
unfoldable pub turned_lfo : SampledTurns → Lfo → Lfo
turned_lfo n l = record { shape = l.shape; turns = turns_of n l.shape; slew = l.slew; unipolar = l.unipolar; synced = l.synced }

-- ---- fade
unfoldable pub fade_of : ℕ → Fade
fade_of b = record { end = byte_of b ⊘ (byte_of b ⊕ half₃₂) }

-- ---- filters
-- Pole byte 1 is two poles, 12 decibels to an octave; all others are four, 24.
unfoldable pub pole_slope_of : ℕ → Float
pole_slope_of pole = cond (eqb pole 1) (bits 0x4140_0000) (bits 0x41c0_0000)

-- 3 octaves to either side of the corner, here and below.
unfoldable pub low_pass_of : ℕ → ℕ → Filter
low_pass_of resonance pole = record { slope = pole_slope_of pole; resonance = byte_of resonance; span = bits 0x4040_0000; pass = Low }

-- 6 decibels to an octave, and no resonance.
unfoldable pub high_pass_of : Filter
high_pass_of = record { slope = bits 0x40c0_0000; resonance = zero₃₂; span = bits 0x4040_0000; pass = High }

-- ---- oscillators
-- The PWM source is Manual at 0 and from 6 on.
abbrev pub is_manual : ℕ → Bool
is_manual source = eqb source 0 || ltb 5 source

-- How far the pulse's edge can move: 0.49 of the cycle.
unfoldable pub depth_of : ℕ → Float
depth_of b = byte_of b ⊗ bits 0x3efa_e148

unfoldable pub width_of : ℕ → ℕ → Float
width_of source depth = cond (is_manual source) (half₃₂ ⊕ depth_of depth) half₃₂

unfoldable pub sweep_of : ℕ → ℕ → Float
sweep_of source depth = cond (is_manual source) zero₃₂ (depth_of depth)

unfoldable pub oscillator_one_of : ℕ → ℕ → ℕ → ℕ → Oscillator
oscillator_one_of source pulse saw depth = record { saw = is_on saw; pulse = is_on pulse; width = width_of source depth; sweep = sweep_of source depth; level = one₃₂ }

-- A square at a level.
unfoldable pub oscillator_two_of : ℕ → Oscillator
oscillator_two_of level = record { saw = false; pulse = true; width = half₃₂; sweep = zero₃₂; level = byte_of level }

-- ---- noise
unfoldable pub noise_of : ℕ → Noise
noise_of level = record { level = byte_of level }
