-- THE FADE IN BINARY32: docs/SPECIFICATION.md, "The curves". Each operation is rounded once, in the order written. A level is what a curve comes to at a position from 0
-- to 1, before the last clamp. Definitions only.
use Rattle.std.specs.Prelude.{cond, Float}
use Rattle.std.specs.Float.Ieee.{lt}
use Rattle.exact.specs.Binary32.{◌⊘◌, one₃₂}
use Rattle.curve.specs.declared.Height.{Height}
use Rattle.curve.specs.Curve.{position_of, drawn_of}
use Rattle.settings.specs.declared.Fade.{Fade}

-- A straight rise from 0 to 1 up to the end, then 1.
unfoldable pub fade_level_of : Fade → Float → Float
fade_level_of f t = cond (lt t f.end) (t ⊘ f.end) one₃₂

unfoldable pub fade_height_of : Fade → Float → Height
fade_height_of f t = drawn_of (fade_level_of f (position_of t))
