-- THE EXACT 2 ^ s: the series through order 20 of what s has above its floor, times 2 to its floor. docs/SPECIFICATION.md, "Exact series". Nothing here is rounded. Definitions only.
use Rattle.std.specs.Prelude.{List, ℕ, ◌*◌, ◌^◌}
use Rattle.exact.specs.Fraction.{Fraction, ratio, power_of_two, floorℚ, ◌*ℚ◌}
use Rattle.series.specs.Horner.{hornerℚ}
use Rattle.series.specs.Terms.{terms, factorial}
use Rattle.floor.specs.Exact.{fractℚ}

-- (ln 2) ^ n / n!, with ln 2 = 0.69314718055994530942
unfoldable pub exp2_term : ℕ → Fraction
unfolding factorial
exp2_term n = ratio (69314718055994530942 ^ n) (100000000000000000000 ^ n * factorial n)

unfoldable pub exp2_terms : List Fraction
unfolding terms exp2_term
exp2_terms = terms exp2_term 0 21

unfoldable pub exp2ℚ : Fraction → Fraction
exp2ℚ s = hornerℚ exp2_terms (fractℚ s) *ℚ power_of_two (floorℚ s)
