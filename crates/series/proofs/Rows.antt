-- A ROW OF OUTSIDE NUMBERS: the point, the function itself there, and its series summed apart from ours. Assumes nothing.
use mathlib.Core.Bool.{Bool, ◌&&◌}
use Prim.Native.Nat.{ℕ, ◌^◌}
use Rattle.exact.specs.Fraction.{Fraction, ratio, ltℚ, absℚ, ◌-ℚ◌, ◌*ℚ◌}

-- n units of the fortieth decimal
unfoldable pub decimal : ℕ → Fraction
decimal n = ratio n (10 ^ 40)

-- |a - b| < q. It fails where a has no value: nothing over 0 lies below q.
abbrev nearer : Fraction → Fraction → Fraction → Bool
nearer q a b = ltℚ (absℚ (a -ℚ b)) q

-- How far a series may be from a function that is v there: 10^-17, or 10^-17 of v, or twice 10^-17 (log2's own truncation is 1.8 * 10^-17 at a mantissa next to 2).
abbrev pub plainly : Fraction → Fraction
plainly v = ratio 1 (10 ^ 17)

abbrev pub relatively : Fraction → Fraction
relatively v = v *ℚ ratio 1 (10 ^ 17)

abbrev pub twice : Fraction → Fraction
twice v = ratio 2 (10 ^ 17)

-- f at the row's point is that near to the function, and it is the series of the row to 40 decimals.
unfoldable pub near : (Fraction → Fraction) → (Fraction → Fraction) → Fraction × Fraction × Fraction → Bool
near f most r = nearer (most r.1) (f r.0) r.1 && nearer (ratio 1 (10 ^ 40)) (f r.0) r.2
