-- A row, and what the captions are called, computed from their definitions. Assumes nothing.
use mathlib.Core.Path.{◌≡◌, refl}
use mathlib.Core.List.{[]}
use lib.Ieee.{of_bits, to_bits, is_nan, lt}
use Rattle.exact.specs.Value.{value}
use Rattle.exact.specs.Binary32.{bits}
use Rattle.math.specs.Formulas.{clamp_of}
use Rattle.curve.specs.Curve.{position_of}
use Rattle.text.specs.Text.{ascii}
use Rattle.words.specs.Words.{first_word, past_bar, word_of}
use Rattle.numerals.specs.Spelled.{glyph_of, digits_of, places_from, decimal_of, hex_of, fixed_of}
use Rattle.fixed_point.specs.Nearest.{nearest_of}
use Rattle.nine_places.specs.Places.{nine_places}
use Rattle.rows.specs.Rows.{decimals_text, caption_text, row_text}

row : row_text (bits 0x3f00_0000) (bits 0x3f3b_26a8) 2 ≡ ascii "0.500000000 0.731058598 3f000000 3f3b26a8 Sustain\n"
unfolding row_text caption_text decimals_text nine_places fixed_of hex_of decimal_of digits_of places_from glyph_of nearest_of position_of value of_bits to_bits is_nan lt clamp_of word_of past_bar first_word
row = refl

called : (caption_text 0 ≡ ascii " Attack") × (caption_text 1 ≡ ascii " Decay") × (caption_text 2 ≡ ascii " Sustain") × (caption_text 3 ≡ ascii " Release") × (caption_text 255 ≡ [])
unfolding caption_text word_of past_bar first_word
called = (refl, refl, refl, refl, refl)
