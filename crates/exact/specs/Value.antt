-- THE VALUE OF A FLOAT, and how near a fraction is to another. Definitions only.
use Rattle.std.specs.Prelude.{◌≡◌, ◌*◌, pos, ◌*ℤ◌, Float}
use Rattle.std.specs.Float.{nan, inf, fin}
use Rattle.std.specs.Float.Ieee.{up, down}
use Rattle.exact.specs.Fraction.{Fraction, Defined, ratio, signed, absℚ, ◌+ℚ◌, ◌*ℚ◌, ◌≤ℚ◌}

-- The number that a float holds. A NaN and an infinity hold none: their fraction is not defined.
unfoldable pub value : Float → Fraction
value nan = ratio 0 0
value (inf s) = ratio 0 0
value (fin s m e) = signed s (m * up e) (down e)

-- a and b are numbers, and they are equal.
pub record Equal (a b : Fraction) : Type 0 where
  pub left : Defined a
  pub right : Defined b
  pub same : a.num *ℤ pos b.den ≡ b.num *ℤ pos a.den

-- a, b and q are numbers, and a and b differ by at most q: |a - b| ≤ q.
pub record Within (a b q : Fraction) : Type 0 where
  pub left : Defined a
  pub right : Defined b
  pub bound : Defined q
  pub below : a ≤ℚ b +ℚ q
  pub above : b ≤ℚ a +ℚ q

-- The same by q of b's size: |a - b| ≤ q |b|.
abbrev pub RelativelyWithin : Fraction → Fraction → Fraction → Type 0
RelativelyWithin a b q = Within a b (q *ℚ absℚ b)
