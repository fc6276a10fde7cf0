-- Numbers as text, computed from their definitions. Assumes nothing.
use mathlib.Core.Path.{◌≡◌, refl}
use Rattle.text.specs.Text.{ascii}
use Rattle.numerals.specs.Spelled.{glyph_of, digits_of, places_from, decimal_of, hex_of, fixed_of}

nothing : decimal_of 0 ≡ ascii "0"
unfolding decimal_of digits_of places_from glyph_of
nothing = refl

ten : decimal_of 10 ≡ ascii "10"
unfolding decimal_of digits_of places_from glyph_of
ten = refl

largest : decimal_of 18446744073709551615 ≡ ascii "18446744073709551615"
unfolding decimal_of digits_of places_from glyph_of
largest = refl

word : hex_of 0x00de_09bf ≡ ascii "00de09bf"
unfolding hex_of digits_of glyph_of
word = refl

ninths : fixed_of 1234567890 9 ≡ ascii "1.234567890"
unfolding fixed_of decimal_of digits_of places_from glyph_of
ninths = refl

small : fixed_of 45 9 ≡ ascii "0.000000045"
unfolding fixed_of decimal_of digits_of places_from glyph_of
small = refl

-- More than 19 places are 19.
many : fixed_of 45 24 ≡ ascii "0.0000000000000000045"
unfolding fixed_of decimal_of digits_of places_from glyph_of
many = refl
