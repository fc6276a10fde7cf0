-- A POLYNOMIAL FOR THE ANALYSER: the float coefficients that are computed beside the exact ones that are meant, which may be more. The last float
-- coefficient stands for the rest of the exact series. Definitions only.
use mathlib.Core.List.{List, [], ◌∷◌}
use lib.IntN.{nat_abs}
use lib.Signed.{non_neg}
use mathlib.Core.Bool.{not}
use lib.Ieee.{Float, binary32, round}
use Rattle.exact.specs.Fraction.{Fraction}
use Rattle.exact.specs.Binary32.{zero₃₂}
use Rattle.rounding.proofs.Analyser.{Expr, constant, approx, plus, times, truncated}

-- the float nearest to a fraction
unfoldable pub nearest_to : Fraction → Float
unfolding round
nearest_to q = round binary32 (not (non_neg q.num)) (nat_abs q.num) q.den

-- the exact coefficients alone
unfoldable pub exactly : List Fraction → Expr → Expr
unfolding nearest_to
exactly [] x = constant zero₃₂
exactly (q ∷ []) x = approx (nearest_to q) q
exactly (q ∷ r ∷ qs) x = plus (approx (nearest_to q) q) (times x (exactly (r ∷ qs) x))

unfoldable pub polynomial : List Float → List Fraction → Expr → Expr
unfolding exactly
polynomial [] qs x = constant zero₃₂
polynomial (c ∷ cs) [] x = constant zero₃₂
polynomial (c ∷ []) (q ∷ []) x = approx c q
polynomial (c ∷ []) (q ∷ r ∷ qs) x = truncated (approx c q) (exactly (q ∷ r ∷ qs) x)
polynomial (c ∷ d ∷ cs) (q ∷ qs) x = plus (approx c q) (times x (polynomial (d ∷ cs) qs x))
