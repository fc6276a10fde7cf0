-- THE EXACT log2, AND THE EXPONENT, HELD AGAINST OUTSIDE NUMBERS. Assumes nothing.
-- Every row was printed by reference/math/exact.py (mpmath 1.3.0 at 60 digits). A row of log2 is the point, the function itself there,
-- and the series of docs/SPECIFICATION.md summed apart from ours; both numbers are rounded to 40 decimals.
use mathlib.Core.Bool.{Bool, ◌&&◌}
use mathlib.Core.List.{List, [], ◌∷◌}
use Prim.Native.Nat.{ℕ}
use lib.IntN.{ℤ, pos, neg_ℤ}
use lib.Signed.{le_z}
use lib.Dec.{T}
use Rattle.lists.proofs.Rows.{all_pass}
use Rattle.exact.specs.Fraction.{Fraction, ratio, negℚ}
use Rattle.series.specs.Horner.{hornerℚ}
use Rattle.series.specs.Terms.{terms}
use Rattle.series.proofs.Rows.{decimal, twice, near}
use Rattle.log2.specs.Exact.{log2ℚ, log2_over, log2_at, log2_mantissaℚ, log2_seriesℚ, log2_terms, log2_term, exponent_of}

-- ---- log2: zero, powers of two, and mantissas up to the last f32 below 2
log2_rows : List (Fraction × Fraction × Fraction)
log2_rows =
    (ratio 0 1, negℚ (decimal 1260000000000000000000000000000000000000000), negℚ (decimal 1260000000000000000000000000000000000000000))
    ∷ (ratio 1 1, decimal 0, decimal 0)
    ∷ (ratio 3 8, negℚ (decimal 14150374992788438185462610560521834912402), negℚ (decimal 14150374992788438185462312973366864576631))
    ∷ (ratio 1000 1, decimal 99657842846620870436109582884681705275945, decimal 99657842846620870375958130371619171929591)
    ∷ (ratio 33554432 1, decimal 250000000000000000000000000000000000000000, decimal 250000000000000000000000000000000000000000)
    ∷ (ratio 1 3, negℚ (decimal 15849625007211561814537389439478165087598), negℚ (decimal 15849625007211561814537172760338775635039))
    ∷ (ratio 1 2, negℚ (decimal 10000000000000000000000000000000000000000), negℚ (decimal 10000000000000000000000000000000000000000))
    ∷ (ratio 16777215 16777216, negℚ (decimal 859913279941456217501339230898472), negℚ (decimal 859913280117154479583357268117699))
    ∷ (ratio 16777215 8388608, decimal 9999999140086720058543782498660769101528, decimal 9999999140086719882845520416642731882301)
    ∷ (ratio 8388609 8388608, decimal 1719826406118446361936972479533124, decimal 1719826406118446361937062266770313)
    ∷ (ratio 3 2, decimal 5849625007211561814537389439478165087598, decimal 5849625007211561814537687026633135423369)
    ∷ (ratio 1 1000, negℚ (decimal 99657842846620870436109582884681705275945), negℚ (decimal 99657842846620870436109565021631471128952)) ∷ []

log2_agrees : T (all_pass (near log2ℚ twice) log2_rows)
unfolding all_pass log2_rows near decimal log2_at log2_mantissaℚ log2_seriesℚ log2_over exponent_of log2_terms log2_term terms hornerℚ
log2_agrees = tt

-- ---- exponentOf, above 1 and below
abbrev same : ℤ → ℤ → Bool
same a b = le_z a b && le_z b a

exponents : ℕ × ℕ × ℤ → Bool
exponents r = same (exponent_of r.0 r.1) r.2

exponent_rows : List (ℕ × ℕ × ℤ)
exponent_rows =
    (1, 1, pos 0) ∷ (3, 2, pos 0) ∷ (6, 3, pos 1) ∷ (7, 4, pos 0) ∷ (1000, 1, pos 9)
    ∷ (1024, 1, pos 10) ∷ (16777215, 8388608, pos 0) ∷ (1, 2, neg_ℤ (pos 1)) ∷ (3, 8, neg_ℤ (pos 2)) ∷ (1, 3, neg_ℤ (pos 2))
    ∷ (7, 8, neg_ℤ (pos 1)) ∷ (4, 8, neg_ℤ (pos 1)) ∷ (1, 1024, neg_ℤ (pos 10)) ∷ (1, 1025, neg_ℤ (pos 11)) ∷ (16777215, 16777216, neg_ℤ (pos 1))
    ∷ (1, 713623846352979940529142984724747568191373312, neg_ℤ (pos 149)) ∷ []

exponent_agrees : T (all_pass exponents exponent_rows)
unfolding all_pass exponent_rows exponents exponent_of
exponent_agrees = tt
