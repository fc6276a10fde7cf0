-- THE FRAME OF A PANEL: docs/SPECIFICATION.md, "The page". The origin is the lower left corner of the frame, a unit is
-- 1/100 mm, and y grows downward: a frame is 50 mm wide and 25 mm high, and a height h is at -2500 h. Definitions only.
use Rattle.std.specs.Prelude.{List, ◌++◌, ℕ, ◌+◌, ◌*◌, ◌/◌, ◌%◌, Float}
use Rattle.text.specs.Text.{ascii}
use Rattle.numerals.specs.Spelled.{decimal_of}
use Rattle.fixed_point.specs.Nearest.{nearest_of}
use Rattle.labels.specs.Titles.{title_of}

-- A height in the frame, in hundredths of a millimetre.
abbrev pub height_units : Float → ℕ
height_units h = nearest_of h 2500

-- A position across the frame, in hundredths of a millimetre.
abbrev pub across_units : Float → ℕ
across_units x = nearest_of x 5000

-- The start of panel k, at the lower left corner of its frame: five to a row, 56 mm apart and 60.5 mm below each other.
unfoldable pub place_text : ℕ → List ℕ
place_text k = ascii "<g transform='translate(" ++ decimal_of (1150 + 5600 * (k % 5)) ++ ascii " " ++ decimal_of (5400 + 6050 * (k / 5)) ++ ascii ")'>"

abbrev pub panel_end : List ℕ
panel_end = ascii "</g>\n"

abbrev pub frame_text : List ℕ
frame_text = ascii "<path class='f' d='M0-2500H5000V0H0Z'/>"

-- The title of panel k.
unfoldable pub title_text : ℕ → List ℕ
title_text k = ascii "<text class='t' y='-2930'>" ++ title_of k ++ ascii "</text>"

-- The level where the shape does nothing, dashed.
unfoldable pub rest_text : Float → List ℕ
rest_text r = ascii "<path class='r' d='M0-" ++ decimal_of (height_units r) ++ ascii "H5000'/>"
