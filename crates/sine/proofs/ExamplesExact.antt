-- THE EXACT SINE HELD AGAINST OUTSIDE NUMBERS. Assumes nothing.
-- Every row was printed by reference/math/exact.py (mpmath 1.3.0 at 60 digits). A row is the point, the function itself there,
-- and the series of docs/SPECIFICATION.md summed apart from ours; both numbers are rounded to 40 decimals.
use mathlib.Core.List.{List, [], ◌∷◌}
use lib.Dec.{T}
use Rattle.lists.proofs.Rows.{all_pass}
use Rattle.exact.specs.Fraction.{Fraction, ratio, given, if_below, negℚ}
use Rattle.series.specs.Horner.{hornerℚ}
use Rattle.series.specs.Terms.{terms, factorial}
use Rattle.series.proofs.Rows.{decimal, plainly, near}
use Rattle.sine.specs.Exact.{sin_turnsℚ, sine_of_cycleℚ, sine_of_quarterℚ, sine_of_angleℚ, sine_terms, sine_term}

-- ---- the sine: folds on both sides of a quarter, a half and a turn
sine_rows : List (Fraction × Fraction × Fraction)
sine_rows =
    (ratio 0 1, decimal 0, decimal 0)
    ∷ (ratio 1 12, decimal 5000000000000000000000000000000000000000, decimal 4999999999999999999996184605013148995440)
    ∷ (ratio 1 4, decimal 10000000000000000000000000000000000000000, decimal 10000000000000000012487611544249221789788)
    ∷ (ratio 7 24, decimal 9659258262890682867497431997288973676339, decimal 9659258262890682867683317486851593533496)
    ∷ (ratio 1 2, decimal 0, decimal 0)
    ∷ (ratio 5 8, negℚ (decimal 7071067811865475244008443621048490392848), negℚ (decimal 7071067811865475244003772228672301206931))
    ∷ (ratio 3 4, negℚ (decimal 10000000000000000000000000000000000000000), negℚ (decimal 10000000000000000012487611544249221789788))
    ∷ (ratio 16777215 16777216, negℚ (decimal 3745070282923841239031691790846332), negℚ (decimal 3745070282923841239028540632418732))
    ∷ (ratio 53 10, decimal 9510565162951535721164393333793821434057, decimal 9510565162951535721234948728900376433933)
    ∷ (ratio 6 1, decimal 0, decimal 0)
    ∷ (negℚ (ratio 1 96), negℚ (decimal 654031292301430668153155587751754414406), negℚ (decimal 654031292301430668152606062003214481798))
    ∷ (negℚ (ratio 99 100), decimal 627905195293133760761782245656311331225, decimal 627905195293133760761254612223026479451) ∷ []

sine_agrees : T (all_pass (near sin_turnsℚ plainly) sine_rows)
unfolding all_pass sine_rows near decimal given if_below sin_turnsℚ sine_of_cycleℚ sine_of_quarterℚ sine_of_angleℚ sine_terms sine_term terms factorial hornerℚ
sine_agrees = tt
