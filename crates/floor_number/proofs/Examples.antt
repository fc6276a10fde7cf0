-- Exponents and floors as text, computed from their definitions. Assumes nothing.
use mathlib.Core.Path.{◌≡◌, refl}
use mathlib.Core.List.{[]}
use lib.Ieee.{of_bits}
use Rattle.exact.specs.Value.{value}
use Rattle.floor.specs.Exponent.{exponent}
use Rattle.text.specs.Text.{ascii}
use Rattle.numerals.specs.Spelled.{glyph_of, digits_of, places_from, decimal_of}
use Rattle.floor_number.specs.Number.{whole_text, number_text}

-- of a zero, of 1 and of an infinity
least : whole_text (exponent 0x8000_0000) ≡ ascii "-127"
unfolding whole_text decimal_of digits_of places_from glyph_of
least = refl

none : whole_text (exponent 0x3f80_0000) ≡ ascii "0"
unfolding whole_text decimal_of digits_of places_from glyph_of
none = refl

most : whole_text (exponent 0xff80_0000) ≡ ascii "128"
unfolding whole_text decimal_of digits_of places_from glyph_of
most = refl

-- 7.999, -2.5, -8388607.5, -0 and 8388608
above : number_text 0x40ff_f7cf ≡ ascii "7"
unfolding number_text whole_text decimal_of digits_of places_from glyph_of value of_bits
above = refl

below : number_text 0xc020_0000 ≡ ascii "-3"
unfolding number_text whole_text decimal_of digits_of places_from glyph_of value of_bits
below = refl

lowest : number_text 0xcaff_ffff ≡ ascii "-8388608"
unfolding number_text whole_text decimal_of digits_of places_from glyph_of value of_bits
lowest = refl

minus_zero : number_text 0x8000_0000 ≡ ascii "0"
unfolding number_text whole_text decimal_of digits_of places_from glyph_of value of_bits
minus_zero = refl

nothing : number_text 0x4b00_0000 ≡ []
unfolding number_text
nothing = refl
