-- THE EXACT 2 ^ s HELD AGAINST OUTSIDE NUMBERS. Assumes nothing.
-- Every row was printed by reference/math/exact.py (mpmath 1.3.0 at 60 digits). A row is the point, the function itself there,
-- and the series of docs/SPECIFICATION.md summed apart from ours; both numbers are rounded to 40 decimals.
use mathlib.Core.List.{List, [], ◌∷◌}
use lib.Dec.{T}
use Rattle.lists.proofs.Rows.{all_pass}
use Rattle.exact.specs.Fraction.{Fraction, ratio, negℚ}
use Rattle.series.specs.Horner.{hornerℚ}
use Rattle.series.specs.Terms.{terms, factorial}
use Rattle.series.proofs.Rows.{decimal, relatively, near}
use Rattle.exp2.specs.Exact.{exp2ℚ, exp2_terms, exp2_term}

-- ---- 2 ^ s: whole s, and others on both sides of 0
exp2_rows : List (Fraction × Fraction × Fraction)
exp2_rows =
    (ratio 0 1, decimal 10000000000000000000000000000000000000000, decimal 10000000000000000000000000000000000000000)
    ∷ (ratio 1 2, decimal 14142135623730950488016887242096980785697, decimal 14142135623730950488036459098918143944218)
    ∷ (ratio 16777215 16777216, decimal 19999999173704187582337983039219049800057, decimal 19999999173704187582393248797906259244518)
    ∷ (ratio 1 1, decimal 20000000000000000000000000000000000000000, decimal 20000000000000000000000000000000000000000)
    ∷ (ratio 127 64, decimal 39569120527759019365164998362623346710987, decimal 39569120527759019365272677750121437291118)
    ∷ (ratio 24 1, decimal 167772160000000000000000000000000000000000000000, decimal 167772160000000000000000000000000000000000000000)
    ∷ (negℚ (ratio 1 1000000000), decimal 9999999993068528196802811974863644822202, decimal 9999999993068528196830444856897132262321)
    ∷ (negℚ (ratio 1 3), decimal 7937005259840997373758528196361541301957, decimal 7937005259840997373773173964953767600380)
    ∷ (negℚ (ratio 1 2), decimal 7071067811865475244008443621048490392848, decimal 7071067811865475244018229549459071972109)
    ∷ (negℚ (ratio 2 1), decimal 2500000000000000000000000000000000000000, decimal 2500000000000000000000000000000000000000)
    ∷ (negℚ (ratio 7 3), decimal 1984251314960249343439632049090385325489, decimal 1984251314960249343443293491238441900095)
    ∷ (negℚ (ratio 100 7), decimal 500692966313255573224050709757993195, decimal 500692966313255573225040605472035942) ∷ []

exp2_agrees : T (all_pass (near exp2ℚ relatively) exp2_rows)
unfolding all_pass exp2_rows near decimal exp2ℚ exp2_terms exp2_term terms factorial hornerℚ
exp2_agrees = tt
