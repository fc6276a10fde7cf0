-- Where cells stand, computed from the definition: the last of the first row, the first of the second, and the last of all. Assumes nothing.
use mathlib.Core.Path.{◌≡◌, refl}
use Rattle.text.specs.Text.{ascii}
use Rattle.numerals.specs.Spelled.{glyph_of, digits_of, places_from, decimal_of}
use Rattle.chart_places.specs.Places.{place_text}

end_of_the_first : place_text 15 ≡ ascii "<g transform='translate(27340 1730)scale(.86 1)'>"
unfolding place_text decimal_of digits_of places_from glyph_of
end_of_the_first = refl

start_of_the_second : place_text 16 ≡ ascii "<g transform='translate(820 2920)scale(.86 1)'>"
unfolding place_text decimal_of digits_of places_from glyph_of
start_of_the_second = refl

last : place_text 255 ≡ ascii "<g transform='translate(27340 19580)scale(.86 1)'>"
unfolding place_text decimal_of digits_of places_from glyph_of
last = refl
