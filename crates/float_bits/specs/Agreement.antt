-- WHEN TWO ANSWERS AGREE: docs/SPECIFICATION.md, "The three demands". Definitions only.
use Rattle.std.specs.Prelude.{Bool, cond, Float}
use Rattle.std.specs.Float.Ieee.{eq, is_nan}

-- Equal numbers agree, two zeros of either sign among them, and so do two NaNs.
unfoldable pub agree : Float → Float → Bool
agree x y = cond (is_nan x) (is_nan y) (eq x y)
