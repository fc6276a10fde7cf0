-- GENERATORS HELD AGAINST THE RUST. The numbers of a row are those of generator.rs and math.rs (deepmind-midi, commit a25f50498d), over a block with the row's bytes. Assumes nothing.
use mathlib.Core.Bool.{Bool, true, false, cond, ◌&&◌}
use mathlib.Core.List.{List, [], ◌∷◌}
use Prim.Native.Nat.{ℕ}
use lib.Dec.{T, eqb}
use lib.Ieee.{binary32, of_bits, to_bits, of_int, add, sub, mul, div, lt}
use Rattle.lists.specs.Padded.{padded}
use Rattle.lists.proofs.Rows.{all_pass, all_match}
use Rattle.settings.specs.Settings.{byte_of, lfo_shape_of, lfo_of, fade_of, low_pass_of, high_pass_of, depth_of, width_of, sweep_of, oscillator_one_of, oscillator_two_of, noise_of}
use Rattle.envelope_settings.specs.Formula.{total_of, first_of, second_of, third_of, envelope_of}
use Rattle.marks.specs.Marks.{count_of, stored, envelope_marks, fade_marks, cycles_from, cycles_of, sweep_marks, pulse_marks, oscillator_marks}
use Rattle.marks.proofs.Examples.{is_mark, has_marks}
use Rattle.generator.specs.declared.Shape.{Shape}
use Rattle.generator.specs.declared.Shape.TheVariants.{Envelope as AnEnvelope, Fade as AFade, Lfo as AnLfo, Filter as AFilter, Oscillator as AnOscillator, Noise as ANoise}
use Rattle.generator.specs.Generator.{scale_of, scale_number, scale_value, filter_unity, rest_of, anchored_of, mark_list, marks_of}

-- ---- marks: a pair is the number of a kind, and the bits of a position
marked : Shape × List (ℕ × ℕ) → Bool
marked r = has_marks r.1 (marks_of r.0)

mark_rows : List (Shape × List (ℕ × ℕ))
mark_rows =
    (AnEnvelope (envelope_of 40 90 180 120 128 200 10 60), (0, 0x0000_0000) ∷ (1, 0x3dd9_01b2) ∷ (2, 0x3eb0_5160) ∷ (3, 0x3f2e_9f5c) ∷ [])
    ∷ (AnEnvelope (envelope_of 0 0 255 0 0 0 0 0), (0, 0x0000_0000) ∷ (1, 0x0000_0000) ∷ (2, 0x0000_0000) ∷ (3, 0x3f80_0000) ∷ [])
    ∷ (AnEnvelope (envelope_of 255 255 255 255 0 0 0 0), (0, 0x0000_0000) ∷ (1, 0x3e92_4925) ∷ (2, 0x3f12_4925) ∷ (3, 0x3f36_db6e) ∷ [])
    ∷ (AFade (fade_of 0), (0, 0x0000_0000) ∷ (2, 0x0000_0000) ∷ [])
    ∷ (AFade (fade_of 100), (0, 0x0000_0000) ∷ (2, 0x3ee1_0e12) ∷ [])
    ∷ (AnLfo (lfo_of 0 0 0 false), (5, 0x3f80_0000) ∷ [])
    ∷ (AnLfo (lfo_of 5 9 1 false), (5, 0x3e2a_aaab) ∷ (5, 0x3eaa_aaab) ∷ (5, 0x3f00_0000) ∷ (5, 0x3f2a_aaab) ∷ (5, 0x3f55_5555) ∷ (5, 0x3f80_0000) ∷ [])
    ∷ (AFilter (low_pass_of 200 1), (4, 0x3f00_0000) ∷ [])
    ∷ (AFilter high_pass_of, (4, 0x3f00_0000) ∷ [])
    ∷ (AnOscillator (oscillator_one_of 0 1 1 200), (7, 0x3f62_6262) ∷ (5, 0x3f80_0000) ∷ [])
    ∷ (AnOscillator (oscillator_one_of 3 1 0 200), (7, 0x3f00_0000) ∷ (8, 0x3dec_ecec) ∷ (8, 0x3f62_6262) ∷ (5, 0x3f80_0000) ∷ [])
    ∷ (AnOscillator (oscillator_one_of 3 1 0 0), (7, 0x3f00_0000) ∷ (5, 0x3f80_0000) ∷ [])
    ∷ (AnOscillator (oscillator_one_of 3 0 1 200), (5, 0x3f80_0000) ∷ [])
    ∷ (AnOscillator (oscillator_two_of 255), (7, 0x3f00_0000) ∷ (5, 0x3f80_0000) ∷ [])
    ∷ (ANoise (noise_of 90), [])
    ∷ []

marks_agree : T (all_pass marked mark_rows)
unfolding all_pass all_match marked has_marks is_mark mark_rows marks_of mark_list stored padded count_of envelope_marks fade_marks cycles_from cycles_of sweep_marks pulse_marks oscillator_marks byte_of total_of first_of second_of third_of envelope_of lfo_shape_of lfo_of fade_of low_pass_of high_pass_of depth_of width_of sweep_of oscillator_one_of oscillator_two_of noise_of to_bits of_bits of_int add sub mul div lt
marks_agree = tt

-- ---- the bits of the rest, 1 if anchored, the number of the scale, and the bits of what it carries
says_of : Shape → List (ℕ × ℕ)
says_of s = (to_bits binary32 (rest_of s), cond (anchored_of s) 1 0) ∷ (scale_number (scale_of s), to_bits binary32 (scale_value (scale_of s))) ∷ []

same_pair : ℕ × ℕ → ℕ × ℕ → Bool
same_pair x y = eqb x.0 y.0 && eqb x.1 y.1

says : Shape × List (ℕ × ℕ) → Bool
says r = all_match same_pair r.1 (says_of r.0)

say_rows : List (Shape × List (ℕ × ℕ))
say_rows =
    (AnEnvelope (envelope_of 40 90 180 120 128 200 10 60), (0x0000_0000, 1) ∷ (0, 0x0000_0000) ∷ [])
    ∷ (AFade (fade_of 100), (0x0000_0000, 1) ∷ (0, 0x0000_0000) ∷ [])
    ∷ (AnLfo (lfo_of 0 0 0 false), (0x3f00_0000, 0) ∷ (1, 0x3f80_0000) ∷ [])
    ∷ (AnLfo (lfo_of 5 9 1 false), (0x3f00_0000, 1) ∷ (1, 0x40c0_0000) ∷ [])
    ∷ (AnLfo (lfo_of 6 0 7 true), (0x0000_0000, 1) ∷ (1, 0x40c0_0000) ∷ [])
    ∷ (AnLfo (lfo_of 200 0 0 true), (0x0000_0000, 0) ∷ (1, 0x3f80_0000) ∷ [])
    ∷ (AFilter (low_pass_of 200 1), (0x3f4c_cccd, 1) ∷ (2, 0x40c0_0000) ∷ [])
    ∷ (AFilter high_pass_of, (0x3f4c_cccd, 1) ∷ (2, 0x40c0_0000) ∷ [])
    ∷ (AnOscillator (oscillator_one_of 3 1 0 200), (0x3f00_0000, 0) ∷ (1, 0x3f80_0000) ∷ [])
    ∷ (AnOscillator (oscillator_two_of 255), (0x3f00_0000, 0) ∷ (1, 0x3f80_0000) ∷ [])
    ∷ (ANoise (noise_of 90), (0x3f00_0000, 0) ∷ (0, 0x0000_0000) ∷ [])
    ∷ []

says_agree : T (all_pass says say_rows)
unfolding all_pass all_match says same_pair says_of say_rows filter_unity lfo_shape_of lfo_of low_pass_of high_pass_of to_bits of_bits mul div
says_agree = tt
