-- A pattern as text, computed from its definition. Assumes nothing.
use mathlib.Core.Path.{◌≡◌, refl}
use Rattle.text.specs.Text.{ascii}
use Rattle.numerals.specs.Spelled.{glyph_of, digits_of, hex_of}
use Rattle.bit_fields.specs.Pattern.{fields_text, pattern_text}

minus_two_and_a_half : pattern_text 0xc020_0000 ≡ ascii "0xc0200000  1 10000000 01000000000000000000000"
unfolding pattern_text fields_text hex_of digits_of glyph_of
minus_two_and_a_half = refl

-- each field from its first bit to its last
ends : pattern_text 0x40c0_0001 ≡ ascii "0x40c00001  0 10000001 10000000000000000000001"
unfolding pattern_text fields_text hex_of digits_of glyph_of
ends = refl
