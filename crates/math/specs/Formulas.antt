-- THE SMALL FUNCTIONS OF FLOATS IN BINARY32: docs/SPECIFICATION.md, "Functions". Each operation is rounded once, in the order written. Definitions only.
use Rattle.std.specs.Prelude.{false, cond, Float}
use Rattle.std.specs.Float.{nan, inf, fin}
use Rattle.std.specs.Float.Ieee.{lt, eq, is_nan}
use Rattle.exact.specs.Binary32.{zero₃₂}

-- ---- the smaller, the larger, a clamp, the size
-- Of two equal numbers: that number, and +0 for two zeros of any signs.
abbrev pub unsigned_zero : Float → Float
unsigned_zero x = cond (eq x zero₃₂) zero₃₂ x

-- Where one of the two is a NaN it is the other.
unfoldable pub min_of : Float → Float → Float
min_of x y = cond (is_nan x) y (cond (is_nan y) x (cond (lt x y) x (cond (lt y x) y (unsigned_zero x))))

unfoldable pub max_of : Float → Float → Float
max_of x y = cond (is_nan x) y (cond (is_nan y) x (cond (lt y x) x (cond (lt x y) y (unsigned_zero x))))

-- x, or the end that it lies beyond: a NaN stays a NaN, and -0 stays -0 between 0 and 1.
unfoldable pub clamp_of : Float → Float → Float → Float
clamp_of low high x = cond (lt x low) low (cond (lt high x) high x)

unfoldable pub abs_of : Float → Float
abs_of nan = nan
abs_of (inf s) = inf false
abs_of (fin s m e) = fin false m e
