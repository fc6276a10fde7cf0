-- THE DIALS OF EACH GENERATOR, from a reading of the bytes: docs/SPECIFICATION.md, "The page". a reads the older
-- program, which is the same one where there is none, and b the program. Definitions only.
use Rattle.std.specs.Prelude.{List, ℕ}
use Rattle.text.specs.Text.{ascii}
use Rattle.code_bytes.specs.Bytes.{oscillator_two_byte, noise_byte, envelope_first, lfo_first, fade_byte}
use Rattle.codes.specs.declared.Code.{Code}
use Rattle.codes.specs.declared.Code.TheVariants.{Envelope, Lfo, LfoUnipolar, Fade, LowPass, HighPass, Oscillator, Noise}
use Rattle.codes.specs.declared.OscillatorId.TheVariants.{One, Two}
use Rattle.dial_lines.specs.Lines.{only_dial}
use Rattle.modulator_dials.specs.Modulators.{envelope_dials, lfo_dials, lfo_other_dials}
use Rattle.tone_dials.specs.Tones.{low_pass_dials, oscillator_dials}

-- The high-pass is always the same.
abbrev pub high_pass_dials : List ℕ
high_pass_dials = ascii "<text class='d' y='1300'>6 dB an octave, fixed</text>"

unfoldable pub dials_of : Code → (ℕ → ℕ) → (ℕ → ℕ) → List ℕ
dials_of (Envelope id) a b = envelope_dials a b (envelope_first id)
dials_of (Lfo id) a b = lfo_dials a b (lfo_first id)
dials_of (LfoUnipolar id) a b = lfo_other_dials a b (lfo_first id)
dials_of (Fade id) a b = only_dial (ascii "Fade time") (a (fade_byte id)) (b (fade_byte id))
dials_of LowPass a b = low_pass_dials a b
dials_of HighPass a b = high_pass_dials
dials_of (Oscillator One) a b = oscillator_dials a b
dials_of (Oscillator Two) a b = only_dial (ascii "Level") (a oscillator_two_byte) (b oscillator_two_byte)
dials_of Noise a b = only_dial (ascii "Level") (a noise_byte) (b noise_byte)
