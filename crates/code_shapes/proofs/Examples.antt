-- SETTINGS THAT ARE KNOWN BEFOREHAND, by the code and its bytes, as the Rust prints them; and no code reads past a block's end. The rows are of reference/generator/run, built over the
-- unchanged generator.rs (deepmind-midi, commit a25f50498d). Assumes nothing.
use mathlib.Core.Bool.{Bool, true, false, cond, ◌&&◌}
use mathlib.Core.List.{List, [], ◌∷◌}
use Prim.Native.Nat.{ℕ}
use Rattle.std.specs.Prelude.{Option, None, Some}
use lib.Dec.{T, eqb, ltb}
use lib.Ieee.{Float, binary32, of_bits, to_bits, of_int, add, sub, mul, div, lt}
use Rattle.exact.specs.Value.{value}
use Rattle.series.specs.Horner.{horner}
use Rattle.math.specs.Formulas.{clamp_of}
use Rattle.floor.specs.Formula.{floor_of, fract_of}
use Rattle.exp2.specs.Formula.{exp2_scale, exp2_coefficients, exp2_within, exp2_of}
use Rattle.lists.proofs.Rows.{all_pass}
use Rattle.settings.specs.declared.LfoShape.{LfoShape}
use Rattle.settings.specs.declared.LfoShape.TheVariants.{Sine, Triangle, Square, RampUp, RampDown, SampleAndHold, SampleAndGlide}
use Rattle.settings.specs.declared.Pass.{Pass}
use Rattle.settings.specs.declared.Pass.TheVariants.{Low, High}
use Rattle.settings.specs.Settings.{byte_of, lfo_of, fade_of, pole_slope_of, low_pass_of, high_pass_of, depth_of, width_of, sweep_of, oscillator_one_of, oscillator_two_of, noise_of}
use Rattle.bends.specs.Formula.{bend_of}
use Rattle.envelope_settings.specs.Formula.{total_of, first_of, second_of, third_of, slope_of, sloped, sustain_end_of, envelope_of}
use Rattle.settings.specs.Settings as shape
use Rattle.generator.specs.declared.Shape.{Shape}
use Rattle.generator.specs.declared.Shape.TheVariants.{Envelope as AnEnvelope, Fade as AFade, Lfo as AnLfo, Filter as AFilter, Oscillator as AnOscillator, Noise as ANoise}
use Rattle.codes.specs.declared.Code.{Code}
use Rattle.codes.specs.declared.Code.TheVariants.{Envelope, Lfo, LfoUnipolar, Fade, LowPass, HighPass, Oscillator, Noise}
use Rattle.codes.specs.declared.EnvelopeId.TheVariants.{Vca, Vcf, Mod}
use Rattle.codes.specs.declared.LfoId.TheVariants.{One as LfoOne, Two as LfoTwo}
use Rattle.codes.specs.declared.OscillatorId.TheVariants.{One, Two}
use Rattle.codes.specs.Codes.{codes, code_in, code_of}
use Rattle.code_bytes.specs.Bytes.{bytes_of, block_length}
use Rattle.code_settings.specs.Settings.{envelope_at, lfo_at, oscillator_at}
use Rattle.code_shapes.specs.Shapes.{shape_of}

-- ---- settings
-- an enum's number, by the order of its declaration; a switch is 0 or 1
shape_number : LfoShape → ℕ
shape_number Sine = 0
shape_number Triangle = 1
shape_number Square = 2
shape_number RampUp = 3
shape_number RampDown = 4
shape_number SampleAndHold = 5
shape_number SampleAndGlide = 6

pass_number : Pass → ℕ
pass_number Low = 0
pass_number High = 1

flag : Bool → ℕ
flag b = cond b 1 0

word : Float → ℕ
word x = to_bits binary32 x

-- the fields of a shape's settings, in the order of their declaration
words : Shape → List ℕ
words (AnEnvelope e) = word e.first ∷ word e.second ∷ word e.third ∷ word e.sustain ∷ word e.sustain_end ∷ word e.attack_bend ∷ word e.decay_bend ∷ word e.release_bend ∷ []
words (AFade f) = word f.end ∷ []
words (AnLfo l) = shape_number l.shape ∷ word l.turns ∷ word l.slew ∷ flag l.unipolar ∷ flag l.synced ∷ []
words (AFilter f) = word f.slope ∷ word f.resonance ∷ word f.span ∷ pass_number f.pass ∷ []
words (AnOscillator o) = flag o.saw ∷ flag o.pulse ∷ word o.width ∷ word o.sweep ∷ word o.level ∷ []
words (ANoise n) = word n.level ∷ []

chosen_words : Option Code → (ℕ → ℕ) → List ℕ
chosen_words (Some c) b = words (shape_of c b)
chosen_words None b = []

same : List ℕ → List ℕ → Bool
same [] [] = true
same [] (n ∷ ns) = false
same (m ∷ ms) [] = false
same (m ∷ ms) (n ∷ ns) = eqb m n && same ms ns

-- a reading by the numbers and the values of some bytes; all others, which the code does not read, are 170
reading : List (ℕ × ℕ) → ℕ → ℕ
reading [] n = 170
reading (p ∷ ps) n = cond (eqb p.0 n) p.1 (reading ps n)

-- the code, its bytes, the settings
settings_rows : List (ℕ × List (ℕ × ℕ) × List ℕ)
settings_rows =
    (0, (53, 124) ∷ (54, 137) ∷ (55, 219) ∷ (56, 236) ∷ (58, 77) ∷ (59, 6) ∷ (60, 13) ∷ (61, 197) ∷ [], 0x3e4b_5302 ∷ 0x3ed5_fb7e ∷ 0x3f1f_41cb ∷ 0x3f5b_dbdc ∷ 0x3db3_55f8 ∷ 0x3f13_5a2b ∷ 0x3e88_980e ∷ 0x4007_1f62 ∷ [])
    ∷ (1, (62, 149) ∷ (63, 6) ∷ (64, 107) ∷ (65, 106) ∷ (67, 101) ∷ (68, 61) ∷ (69, 230) ∷ (70, 125) ∷ [], 0x3ec4_5d93 ∷ 0x3ecc_45da ∷ 0x3f3a_26e1 ∷ 0x3ed6_d6d7 ∷ 0x3f62_ddd8 ∷ 0x3f3f_179a ∷ 0x3ef7_d0de ∷ 0x3f77_d0de ∷ [])
    ∷ (2, (71, 22) ∷ (72, 71) ∷ (73, 233) ∷ (74, 202) ∷ (76, 40) ∷ (77, 187) ∷ (78, 3) ∷ (79, 0) ∷ [], 0x3d55_4869 ∷ 0x3e61_66b5 ∷ 0x3f05_9ad0 ∷ 0x3f69_e9ea ∷ 0x3cb0_1f8e ∷ 0x3ec5_672a ∷ 0x3ff2_8177 ∷ 0x3e80_0000 ∷ [])
    ∷ (3, (2, 3) ∷ (3, 70) ∷ (6, 183) ∷ [], 3 ∷ 0x3f80_0000 ∷ 0x3f37_b7b8 ∷ 0 ∷ 1 ∷ [])
    ∷ (4, (9, 2) ∷ (10, 218) ∷ (13, 115) ∷ [], 2 ∷ 0x3f80_0000 ∷ 0x3ee6_e6e7 ∷ 0 ∷ 1 ∷ [])
    ∷ (5, (2, 5) ∷ (3, 103) ∷ (6, 93) ∷ [], 5 ∷ 0x40c0_0000 ∷ 0x3eba_babb ∷ 1 ∷ 1 ∷ [])
    ∷ (6, (9, 4) ∷ (10, 143) ∷ (13, 9) ∷ [], 4 ∷ 0x3f80_0000 ∷ 0x3d10_9091 ∷ 1 ∷ 1 ∷ [])
    ∷ (7, (1, 243) ∷ [], 0x3f27_e720 ∷ [])
    ∷ (8, (8, 45) ∷ [], 0x3e85_90b2 ∷ [])
    ∷ (9, (41, 120) ∷ (51, 1) ∷ [], 0x4140_0000 ∷ 0x3ef0_f0f1 ∷ 0x4040_0000 ∷ 0 ∷ [])
    ∷ (10, [], 0x40c0_0000 ∷ 0 ∷ 0x4040_0000 ∷ 1 ∷ [])
    ∷ (11, (16, 1) ∷ (18, 14) ∷ (19, 143) ∷ (25, 96) ∷ [], 1 ∷ 1 ∷ 0x3f00_0000 ∷ 0x3e3c_e5dc ∷ 0x3f80_0000 ∷ [])
    ∷ (12, (26, 135) ∷ [], 0 ∷ 1 ∷ 0x3f00_0000 ∷ 0 ∷ 0x3f07_8788 ∷ [])
    ∷ (13, (33, 3) ∷ [], 0x3c40_c0c1 ∷ [])
    ∷ (3, (2, 137) ∷ (3, 0) ∷ (6, 234) ∷ [], 0 ∷ 0x3f80_0000 ∷ 0x3f6a_eaeb ∷ 0 ∷ 0 ∷ [])
    ∷ (4, (9, 241) ∷ (10, 79) ∷ (13, 0) ∷ [], 0 ∷ 0x3f80_0000 ∷ 0 ∷ 0 ∷ 1 ∷ [])
    ∷ (11, (16, 177) ∷ (18, 0) ∷ (19, 82) ∷ (25, 14) ∷ [], 1 ∷ 0 ∷ 0x3f06_e30c ∷ 0 ∷ 0x3f80_0000 ∷ [])
    ∷ (11, (16, 145) ∷ (18, 248) ∷ (19, 0) ∷ (25, 182) ∷ [], 0 ∷ 1 ∷ 0x3f59_879c ∷ 0 ∷ 0x3f80_0000 ∷ [])
    ∷ []

holds : ℕ × List (ℕ × ℕ) × List ℕ → Bool
holds r = same (chosen_words (code_of r.0) (reading r.1)) r.2

settings_agree : T (all_pass holds settings_rows)
unfolding all_pass holds settings_rows same reading chosen_words words word flag shape_number pass_number codes code_in shape_of envelope_at lfo_at oscillator_at byte_of total_of first_of second_of third_of slope_of sloped sustain_end_of bend_of envelope_of shape.lfo_shape_of lfo_of fade_of pole_slope_of low_pass_of high_pass_of depth_of width_of sweep_of oscillator_one_of oscillator_two_of noise_of to_bits of_bits of_int exp2_of exp2_within exp2_coefficients clamp_of lt horner fract_of floor_of exp2_scale value add sub mul div
settings_agree = tt

-- ---- the bytes lie in the block
within : List ℕ → Bool
within [] = true
within (n ∷ ns) = ltb n block_length && within ns

bytes_within : (c : Code) → T (within (bytes_of c))
unfolding within bytes_of
bytes_within (Envelope Vca) = tt
bytes_within (Envelope Vcf) = tt
bytes_within (Envelope Mod) = tt
bytes_within (Lfo LfoOne) = tt
bytes_within (Lfo LfoTwo) = tt
bytes_within (LfoUnipolar LfoOne) = tt
bytes_within (LfoUnipolar LfoTwo) = tt
bytes_within (Fade LfoOne) = tt
bytes_within (Fade LfoTwo) = tt
bytes_within LowPass = tt
bytes_within HighPass = tt
bytes_within (Oscillator One) = tt
bytes_within (Oscillator Two) = tt
bytes_within Noise = tt
