-- THE CURVE OF A PANEL, as a line: docs/SPECIFICATION.md, "The page". Definitions only.
use Rattle.std.specs.Prelude.{List, [], ◌++◌, ℕ, zero, suc, ◌*◌, min, length, get_or, Float}
use Rattle.std.specs.Float.{nan}
use Rattle.text.specs.Text.{ascii}
use Rattle.numerals.specs.Spelled.{decimal_of}
use Rattle.panel_frame.specs.Frame.{height_units}

-- Sample i: 0.1 mm to the right of the one before it.
unfoldable pub point_text : ℕ → Float → List ℕ
point_text i h = decimal_of (10 * i) ++ ascii ",-" ++ decimal_of (height_units h) ++ ascii " "

-- The first k samples.
unfoldable pub points_text : List Float → ℕ → List ℕ
points_text hs zero = []
points_text hs (suc k) = points_text hs k ++ point_text k (get_or hs k nan)

-- A line through the samples, after its start; at most 501 fit between the frame's edges.
unfoldable pub line_text : List ℕ → List Float → List ℕ
line_text start hs = start ++ points_text hs (min (length hs) 501) ++ ascii "'/>"

abbrev pub curve_text : List Float → List ℕ
curve_text hs = line_text (ascii "<polyline class='c' points='") hs
