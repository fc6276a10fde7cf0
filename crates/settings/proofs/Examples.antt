-- THE SETTINGS HELD AGAINST THE RUST. A row is the bytes, then what they give: a float by its bits, a switch as 0 or 1. Assumes nothing.
-- Every row was printed by reference/settings/run, built with rustc 1.95.0 over the unchanged math.rs and generator.rs
-- (deepmind-midi, commit a25f50498d).
use mathlib.Core.Bool.{Bool, true, false, cond, ◌&&◌}
use mathlib.Core.List.{List, [], ◌∷◌}
use Prim.Native.Nat.{ℕ}
use lib.Dec.{T, eqb}
use lib.Ieee.{Float, binary32, of_bits, to_bits, of_int, add, mul, div}
use Rattle.lists.proofs.Rows.{all_pass}
use Rattle.settings.specs.declared.LfoShape.{LfoShape}
use Rattle.settings.specs.declared.LfoShape.TheVariants.{Sine, Triangle, Square, RampUp, RampDown, SampleAndHold, SampleAndGlide}
use Rattle.settings.specs.declared.Pass.{Pass}
use Rattle.settings.specs.declared.Pass.TheVariants.{Low, High}
use Rattle.settings.specs.declared.Oscillator.{Oscillator}
use Rattle.settings.specs.declared.Filter.{Filter}
use Rattle.settings.specs.Settings.{byte_of, lfo_shape_of, lfo_of, fade_of, pole_slope_of, low_pass_of, high_pass_of, depth_of, width_of, sweep_of, oscillator_one_of, oscillator_two_of, noise_of}

-- the float has these bits; the switch is on where the number is 1
is : Float → ℕ → Bool
is x b = eqb (to_bits binary32 x) b

switched : Bool → ℕ → Bool
switched s n = eqb (cond s 1 0) n

-- ---- a byte
byte_rows : List (ℕ × ℕ)
byte_rows =
    (0, 0x0000_0000) ∷ (1, 0x3b80_8081) ∷ (3, 0x3c40_c0c1) ∷ (51, 0x3e4c_cccd) ∷ (85, 0x3eaa_aaab) ∷ (127, 0x3efe_feff) ∷ (128, 0x3f00_8081)
    ∷ (254, 0x3f7e_feff) ∷ (255, 0x3f80_0000) ∷ []

byte_row : ℕ × ℕ → Bool
byte_row r = is (byte_of r.0) r.1

byte_agrees : T (all_pass byte_row byte_rows)
unfolding all_pass byte_row byte_rows is switched to_bits of_bits of_int byte_of div
byte_agrees = tt

-- ---- an LFO, by its shape byte, which is its sync byte too, and a slew of 77: the shape's number, the turns, the slew, whether it is synced
number_of : LfoShape → ℕ
number_of Sine = 0
number_of Triangle = 1
number_of Square = 2
number_of RampUp = 3
number_of RampDown = 4
number_of SampleAndHold = 5
number_of SampleAndGlide = 6

shape_rows : List (ℕ × ℕ × ℕ × ℕ × ℕ)
shape_rows =
    (0, 0, 0x3f80_0000, 0x3e9a_9a9b, 0) ∷ (1, 1, 0x3f80_0000, 0x3e9a_9a9b, 1) ∷ (2, 2, 0x3f80_0000, 0x3e9a_9a9b, 1)
    ∷ (3, 3, 0x3f80_0000, 0x3e9a_9a9b, 1) ∷ (4, 4, 0x3f80_0000, 0x3e9a_9a9b, 1) ∷ (5, 5, 0x40c0_0000, 0x3e9a_9a9b, 1)
    ∷ (6, 6, 0x40c0_0000, 0x3e9a_9a9b, 1) ∷ (7, 0, 0x3f80_0000, 0x3e9a_9a9b, 1) ∷ (8, 0, 0x3f80_0000, 0x3e9a_9a9b, 1)
    ∷ (255, 0, 0x3f80_0000, 0x3e9a_9a9b, 1) ∷ []

shape_row : ℕ × ℕ × ℕ × ℕ × ℕ → Bool
shape_row r = let l = lfo_of r.0 77 r.0 false in eqb (number_of l.shape) r.1 && is l.turns r.2 && is l.slew r.3 && switched l.synced r.4

shape_agrees : T (all_pass shape_row shape_rows)
unfolding all_pass shape_row shape_rows is switched to_bits of_bits of_int number_of lfo_of lfo_shape_of byte_of div
shape_agrees = tt

-- ---- a fade
fade_rows : List (ℕ × ℕ)
fade_rows =
    (0, 0x0000_0000) ∷ (1, 0x3bff_0100) ∷ (2, 0x3c7d_08e6) ∷ (127, 0x3eff_7f3e) ∷ (128, 0x3f00_4021) ∷ (254, 0x3f2a_7167) ∷ (255, 0x3f2a_aaab) ∷ []

fade_row : ℕ × ℕ → Bool
fade_row r = is (fade_of r.0).end r.1

fade_agrees : T (all_pass fade_row fade_rows)
unfolding all_pass fade_row fade_rows is switched to_bits of_bits of_int fade_of byte_of add div
fade_agrees = tt

-- ---- the low-pass filter, by its pole byte, at a resonance of 200: the slope, the resonance, the span, whether it is a high-pass; then the high-pass
is_high : Pass → Bool
is_high Low = false
is_high High = true

filter_is : Filter → ℕ → ℕ → ℕ → ℕ → Bool
filter_is f slope resonance span high = is f.slope slope && is f.resonance resonance && is f.span span && switched (is_high f.pass) high

pole_rows : List (ℕ × ℕ × ℕ × ℕ × ℕ)
pole_rows =
    (0, 0x41c0_0000, 0x3f48_c8c9, 0x4040_0000, 0) ∷ (1, 0x4140_0000, 0x3f48_c8c9, 0x4040_0000, 0) ∷ (2, 0x41c0_0000, 0x3f48_c8c9, 0x4040_0000, 0)
    ∷ (3, 0x41c0_0000, 0x3f48_c8c9, 0x4040_0000, 0) ∷ (255, 0x41c0_0000, 0x3f48_c8c9, 0x4040_0000, 0) ∷ []

pole_row : ℕ × ℕ × ℕ × ℕ × ℕ → Bool
pole_row r = filter_is (low_pass_of 200 r.0) r.1 r.2 r.3 r.4

pole_agrees : T (all_pass pole_row pole_rows)
unfolding all_pass pole_row pole_rows is switched to_bits of_bits of_int filter_is is_high low_pass_of pole_slope_of byte_of div
pole_agrees = tt

high_rows : List (ℕ × ℕ × ℕ × ℕ)
high_rows =
    (0x40c0_0000, 0x0000_0000, 0x4040_0000, 1) ∷ []

high_row : ℕ × ℕ × ℕ × ℕ → Bool
high_row r = filter_is high_pass_of r.0 r.1 r.2 r.3

high_agrees : T (all_pass high_row high_rows)
unfolding all_pass high_row high_rows is switched to_bits of_bits of_int filter_is is_high high_pass_of
high_agrees = tt

-- ---- oscillator 1, by its PWM source, with saw byte 2 and depth 255: saw, pulse, width, sweep, level; its width and sweep by the depth; oscillator 2
oscillator_is : Oscillator → ℕ → ℕ → ℕ → ℕ → ℕ → Bool
oscillator_is o saw pulse width sweep level = switched o.saw saw && switched o.pulse pulse && is o.width width && is o.sweep sweep && is o.level level

source_rows : List (ℕ × ℕ × ℕ × ℕ × ℕ × ℕ)
source_rows =
    (0, 1, 0, 0x3f7d_70a4, 0x0000_0000, 0x3f80_0000) ∷ (1, 1, 0, 0x3f00_0000, 0x3efa_e148, 0x3f80_0000)
    ∷ (2, 1, 0, 0x3f00_0000, 0x3efa_e148, 0x3f80_0000) ∷ (3, 1, 0, 0x3f00_0000, 0x3efa_e148, 0x3f80_0000)
    ∷ (4, 1, 0, 0x3f00_0000, 0x3efa_e148, 0x3f80_0000) ∷ (5, 1, 0, 0x3f00_0000, 0x3efa_e148, 0x3f80_0000)
    ∷ (6, 1, 0, 0x3f7d_70a4, 0x0000_0000, 0x3f80_0000) ∷ (7, 1, 0, 0x3f7d_70a4, 0x0000_0000, 0x3f80_0000)
    ∷ (255, 1, 0, 0x3f7d_70a4, 0x0000_0000, 0x3f80_0000) ∷ []

source_row : ℕ × ℕ × ℕ × ℕ × ℕ × ℕ → Bool
source_row r = oscillator_is (oscillator_one_of r.0 0 2 255) r.1 r.2 r.3 r.4 r.5

source_agrees : T (all_pass source_row source_rows)
unfolding all_pass source_row source_rows is switched to_bits of_bits of_int oscillator_is oscillator_one_of width_of sweep_of depth_of byte_of add mul div
source_agrees = tt

depth_rows : List (ℕ × ℕ × ℕ)
depth_rows =
    (0, 0x3f00_0000, 0x0000_0000) ∷ (1, 0x3f00_7def, 0x3afb_dd26) ∷ (100, 0x3f31_3131, 0x3e44_c4c5) ∷ (128, 0x3f3e_f74a, 0x3e7b_dd26)
    ∷ (254, 0x3f7c_f2b6, 0x3ef9_e56b) ∷ (255, 0x3f7d_70a4, 0x3efa_e148) ∷ []

depth_row : ℕ × ℕ × ℕ → Bool
depth_row r = is (oscillator_one_of 0 1 0 r.0).width r.1 && is (oscillator_one_of 1 1 0 r.0).sweep r.2

depth_agrees : T (all_pass depth_row depth_rows)
unfolding all_pass depth_row depth_rows is switched to_bits of_bits of_int oscillator_one_of width_of sweep_of depth_of byte_of add mul div
depth_agrees = tt

two_rows : List (ℕ × ℕ × ℕ × ℕ × ℕ × ℕ)
two_rows =
    (0, 0, 1, 0x3f00_0000, 0x0000_0000, 0x0000_0000) ∷ (1, 0, 1, 0x3f00_0000, 0x0000_0000, 0x3b80_8081)
    ∷ (200, 0, 1, 0x3f00_0000, 0x0000_0000, 0x3f48_c8c9) ∷ (255, 0, 1, 0x3f00_0000, 0x0000_0000, 0x3f80_0000) ∷ []

two_row : ℕ × ℕ × ℕ × ℕ × ℕ × ℕ → Bool
two_row r = oscillator_is (oscillator_two_of r.0) r.1 r.2 r.3 r.4 r.5

two_agrees : T (all_pass two_row two_rows)
unfolding all_pass two_row two_rows is switched to_bits of_bits of_int oscillator_is oscillator_two_of byte_of div
two_agrees = tt

-- ---- noise
noise_rows : List (ℕ × ℕ)
noise_rows =
    (0, 0x0000_0000) ∷ (1, 0x3b80_8081) ∷ (200, 0x3f48_c8c9) ∷ (255, 0x3f80_0000) ∷ []

noise_row : ℕ × ℕ → Bool
noise_row r = is (noise_of r.0).level r.1

noise_agrees : T (all_pass noise_row noise_rows)
unfolding all_pass noise_row noise_rows is switched to_bits of_bits of_int noise_of byte_of div
noise_agrees = tt
