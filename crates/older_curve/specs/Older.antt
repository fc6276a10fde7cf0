-- THE CURVE OF AN OLDER PROGRAM: docs/SPECIFICATION.md, "The page". Definitions only.
use Rattle.std.specs.Prelude.{Bool, true, false, cond, List, [], ℕ, zero, suc, eqb, get_or, Float}
use Rattle.std.specs.Float.{nan}
use Rattle.text.specs.Text.{ascii}
use Rattle.panel_frame.specs.Frame.{height_units}
use Rattle.panel_line.specs.Line.{line_text}

-- The first k samples of two strips are drawn at the same points.
unfoldable pub same_points : List Float → List Float → ℕ → Bool
same_points old new zero = true
same_points old new (suc k) = cond (eqb (height_units (get_or old k nan)) (height_units (get_or new k nan))) (same_points old new k) false

-- The older curve, which lies beneath in grey, where one of its 501 points is another; a curve that is drawn the same
-- has none beneath it.
unfoldable pub older_curve_text : List Float → List Float → List ℕ
older_curve_text old new = cond (same_points old new 501) [] (line_text (ascii "<polyline class='u' points='") old)
