-- A LEVEL READ FROM ITS DECIMALS: docs/SPECIFICATION.md, "A curve byte as text". The number that is written is taken exactly, and rounded once. Definitions only.
use Rattle.std.specs.Prelude.{Option, Some, None, Float, false, cond, List, [], ◌∷◌, ℕ, ◌^◌, ltb, leb, eqb, length}
use Rattle.std.specs.Float.{binary32}
use Rattle.std.specs.Float.Ieee.{round}
use Rattle.decimal_reading.specs.Reading.{read_after}

-- A number over 10 to the power n, rounded once to binary32. Above 1 it is no level.
unfoldable pub level_over : ℕ → Option ℕ → Option Float
level_over n (Some m) = cond (ltb (10 ^ n) m) None (Some (round binary32 false m (10 ^ n)))
level_over n None = None

-- One digit; or one digit, a point and at most 160 places. The digits without the point are one number, over 10 to the power of how many places there are.
unfoldable pub level_of : List ℕ → Option Float
level_of [] = None
level_of (whole ∷ []) = level_over 0 (read_after 0 (whole ∷ []))
level_of (whole ∷ point ∷ places) =
    cond (eqb point 46) (cond (leb (length places) 160) (level_over (length places) (read_after 0 (whole ∷ places))) None) None
