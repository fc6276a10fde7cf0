-- Where rows stand, computed from the definition: the last of the first column, the first of the second, and the last of all. Assumes nothing.
use mathlib.Core.Path.{◌≡◌, refl}
use Rattle.text.specs.Text.{ascii}
use Rattle.numerals.specs.Spelled.{glyph_of, digits_of, places_from, decimal_of}
use Rattle.parameter_places.specs.Places.{place_text}

foot_of_the_first : place_text 60 ≡ ascii "<g transform='translate(1150 19520)'>"
unfolding place_text decimal_of digits_of places_from glyph_of
foot_of_the_first = refl

head_of_the_second : place_text 61 ≡ ascii "<g transform='translate(8250 2120)'>"
unfolding place_text decimal_of digits_of places_from glyph_of
head_of_the_second = refl

last : place_text 241 ≡ ascii "<g transform='translate(22450 18940)'>"
unfolding place_text decimal_of digits_of places_from glyph_of
last = refl
