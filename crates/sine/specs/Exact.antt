-- THE EXACT SINE of a number of turns, through order 21: docs/SPECIFICATION.md, "Exact series". Nothing here is rounded. Definitions only.
use Rattle.std.specs.Prelude.{cond, List, ℕ, ◌+◌, ◌*◌, ◌%◌, pos, negsuc, eqb}
use Rattle.exact.specs.Fraction.{Fraction, ratio, whole, if_below, negℚ, ◌-ℚ◌, ◌*ℚ◌}
use Rattle.series.specs.Horner.{hornerℚ}
use Rattle.series.specs.Terms.{terms, factorial}
use Rattle.floor.specs.Exact.{fractℚ}

-- a turn in radians
abbrev pub turn : Fraction
turn = ratio 628318530717958647692 100000000000000000000

-- (-1) ^ n / (2 n + 1)!
unfoldable pub sine_term : ℕ → Fraction
unfolding factorial
sine_term n = cond (eqb (n % 2) 0) (ratio 1 (factorial (2 * n + 1))) (negℚ (ratio 1 (factorial (2 * n + 1))))

unfoldable pub sine_terms : List Fraction
unfolding terms sine_term
sine_terms = terms sine_term 0 11

-- from 0..1 to the half turn and to the quarter turn, and the half's sign
abbrev pub halfℚ : Fraction → Fraction
halfℚ c = if_below c (ratio 1 2) c (c -ℚ ratio 1 2)

abbrev pub quarterℚ : Fraction → Fraction
quarterℚ h = if_below (ratio 1 4) h (ratio 1 2 -ℚ h) h

abbrev pub signℚ : Fraction → Fraction
signℚ c = if_below c (ratio 1 2) (whole (pos 1)) (whole (negsuc 0))

unfoldable pub sine_of_angleℚ : Fraction → Fraction
sine_of_angleℚ a = a *ℚ hornerℚ sine_terms (a *ℚ a)

unfoldable pub sine_of_quarterℚ : Fraction → Fraction
sine_of_quarterℚ q = sine_of_angleℚ (q *ℚ turn)

unfoldable pub sine_of_cycleℚ : Fraction → Fraction
sine_of_cycleℚ c = signℚ c *ℚ sine_of_quarterℚ (quarterℚ (halfℚ c))

unfoldable pub sin_turnsℚ : Fraction → Fraction
sin_turnsℚ p = sine_of_cycleℚ (fractℚ p)
