-- THE EXACT log2 of 2 ^ e * m, m from 1 to below 2: e, and the series of m through u ^ 31. docs/SPECIFICATION.md, "Exact series". Nothing here is rounded. Definitions only.
use Rattle.std.specs.Prelude.{cond, List, ℕ, zero, suc, ◌+◌, ◌-◌, ◌*◌, ◌/◌, ℤ, pos, negsuc, neg_ℤ, leb}
use Rattle.std.specs.Float.Ieee.{size}
use Rattle.exact.specs.Fraction.{Fraction, ratio, whole, power_of_two, ◌+ℚ◌, ◌-ℚ◌, ◌*ℚ◌, ◌/ℚ◌}
use Rattle.series.specs.Horner.{hornerℚ}
use Rattle.series.specs.Terms.{terms}

-- 1 / (2 n + 1)
unfoldable pub log2_term : ℕ → Fraction
log2_term n = ratio 1 (2 * n + 1)

unfoldable pub log2_terms : List Fraction
unfolding terms log2_term
log2_terms = terms log2_term 0 16

-- 2 / ln 2
abbrev pub two_over_log : Fraction
two_over_log = ratio 288539008177792681472 100000000000000000000

unfoldable pub log2_seriesℚ : Fraction → Fraction
log2_seriesℚ u = (u *ℚ hornerℚ log2_terms (u *ℚ u)) *ℚ two_over_log

unfoldable pub log2_mantissaℚ : Fraction → Fraction
log2_mantissaℚ m = log2_seriesℚ ((m -ℚ whole (pos 1)) /ℚ (m +ℚ whole (pos 1)))

-- the exponent of n / d: the largest e with 2 ^ e at most n / d, for n and d above 0
unfoldable pub exponent_of : ℕ → ℕ → ℤ
unfolding size
exponent_of n d = cond (leb d n) (pos (size (n / d) - 1)) (neg_ℤ (pos (size ((d - 1) / n))))

unfoldable pub log2_at : ℤ → Fraction → Fraction
log2_at e X = whole e +ℚ log2_mantissaℚ (X /ℚ power_of_two e)

-- Of zero it is -126. A negative number has none, and neither has what is no number.
unfoldable pub log2_over : ℤ → ℕ → Fraction
log2_over n zero = ratio 0 0
log2_over (pos zero) (suc d) = whole (negsuc 125)
log2_over (pos (suc n)) (suc d) = log2_at (exponent_of (suc n) (suc d)) (ratio (suc n) (suc d))
log2_over (negsuc n) (suc d) = ratio 0 0

abbrev pub log2ℚ : Fraction → Fraction
log2ℚ X = log2_over X.num X.den
