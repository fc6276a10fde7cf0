-- THE SLOPE OF THE EXACT exp2 OVER ITS STEPS. With S the series, exp2 (k + x) is S x times 2 ^ k, for x from 0 to 1. From x on to y = x + d under one floor, S grows by no more
-- than its slope at 1, which is 2 ln 2. From x to 1 + y under two, S at 1 exceeds 2 by 6 * 10 ^ -21, and both S x and 2 S y lie within their slopes of 2. Assumes nothing.
use mathlib.Core.Path.{◌≡◌, refl, ap}
use mathlib.Core.List.{List, ◌∷◌}
use Prim.Native.Nat.{ℕ, zero, suc, ◌+◌, ◌-◌, ◌*◌, ◌^◌, ◌≤◌, ◌<◌}
use native.Mathlib.Nat.{mul-pos, zero-lt-suc, one-le-pow}
use native.Mathlib.Omega.{arith}
use lib.Dec.{lit<, lit≤}
use Rattle.exact.specs.Fraction.{Defined}
use Rattle.series.specs.Terms.{terms, factorial}
use Rattle.exp2.specs.Exact.{exp2_term, exp2_terms}
use Rattle.series.proofs.Nonnegative.{Quotient, quotient, nonnegative, natural, ◌⊞◌, ◌⊠◌, ◌≼◌, ≼_refl, ≼_trans, ≼-more, ⊞-mono, ⊠-mono, ⊞-assoc, collect, times_one, gathered}
use Rattle.series.proofs.PolynomialSlope.{value_at, slope_at, fractions, quotients, value_grows, value_slope}

-- ---- THE SERIES
factorial_pos : (n : ℕ) → 0 < factorial n
unfolding factorial
factorial_pos zero = zero-lt-suc 0
factorial_pos (suc n) = mul-pos (zero-lt-suc n) (factorial_pos n)

term_defined : (n : ℕ) → Defined (exp2_term n)
unfolding exp2_term
term_defined n = mul-pos (one-le-pow n 100000000000000000000 (lit< tt)) (factorial_pos n)

pub coefficient : ℕ → Quotient
coefficient n = nonnegative (exp2_term n) (term_defined n)

abbrev later : List Quotient
later = quotients coefficient 1 20

abbrev pub series : List Quotient
series = coefficient 0 ∷ later

pub series_terms : exp2_terms ≡ fractions series
unfolding exp2_terms terms exp2_term fractions quotients coefficient
series_terms = refl

abbrev pub S : Quotient → Quotient
S = value_at series

-- ---- its values and slopes at 1, within 2 ^ -26
abbrev pub slack : Quotient
slack = quotient 1 (2 ^ 26) (lit< tt)

abbrev pub steep : Quotient
steep = natural 2 ⊠ (natural 1 ⊞ slack)

two_below : natural 2 ≼ S (natural 1)
unfolding value_at quotients coefficient exp2_term factorial
two_below = record { le = lit≤ tt }

two_above : S (natural 1) ≼ (natural 1 ⊞ slack) ⊠ natural 2
unfolding value_at quotients coefficient exp2_term factorial
two_above = record { le = lit≤ tt }

slope_below : slope_at series (natural 1) ≼ steep
unfolding slope_at value_at quotients coefficient exp2_term factorial
slope_below = record { le = lit≤ tt }

later_below : value_at later (natural 1) ≼ natural 1 ⊞ slack
unfolding value_at quotients coefficient exp2_term factorial
later_below = record { le = lit≤ tt }

-- it is at least 1, and up to 1 at most 1 + (1 + 2 ^ -26) x
from_one : (x : Quotient) → natural 1 ≼ S x
unfolding value_at quotients coefficient exp2_term factorial
from_one x = ≼_trans (record { le = lit≤ tt }) (≼-more (coefficient 0) (x ⊠ value_at later x))

from_zero : (x : Quotient) → x ≼ natural 1 → S x ≼ natural 1 ⊞ x ⊠ (natural 1 ⊞ slack)
unfolding value_at quotients coefficient exp2_term factorial
from_zero x h = ⊞-mono (record { le = lit≤ tt }) (⊠-mono (≼_refl x) (≼_trans (value_grows later h) later_below))

-- ---- UNDER ONE FLOOR, and under two
-- U at most (1 + 2 ^ -26) W, and W at most (1 + 2 (1 + 2 ^ -26) d) U
pub record Mutually (U W d : Quotient) : Type 0 where
  pub back : U ≼ (natural 1 ⊞ slack) ⊠ W
  pub forth : W ≼ (natural 1 ⊞ d ⊠ steep) ⊠ U

-- 1 ≤ c gives b ≤ b c
enlarged : (b c : Quotient) → natural 1 ≼ c → b ≼ b ⊠ c
enlarged b c h = ≼_trans (times_one b) (⊠-mono (≼_refl b) h)

-- W ≤ U + d, with 1 ≤ U
made_relative : (U W d : Quotient) → natural 1 ≼ U → W ≼ U ⊞ d → W ≼ (natural 1 ⊞ d) ⊠ U
made_relative U W d o h = ≼_trans h (≼_trans (⊞-mono (≼_refl U) (enlarged d U o)) (gathered d U))

pub one_floor : (x y d : Quotient) → y ≼ natural 1 → x ≼ y → y ≼ x ⊞ d → Mutually (S x) (S y) d
one_floor x y d b l h =
    record {
      back = ≼_trans (value_grows series l) (≼_trans (≼-more (S y) (slack ⊠ S y)) (gathered slack (S y)));
      forth = made_relative (S x) (S y) (d ⊠ steep) (from_one x)
          (≼_trans (value_slope series x y d (natural 1) (≼_trans l b) b h) (⊞-mono (≼_refl (S x)) (⊠-mono (≼_refl d) slope_below)));
    }

-- 1 - x
rest : Quotient → Quotient
rest x = quotient (x.base - x.top) x.base x.defined

rest_adds : (x : Quotient) → x ≼ natural 1 → natural 1 ≼ x ⊞ rest x
unfolding rest
rest_adds x h = record { le = core x.top x.base h.le }
  where
    core : (p d : ℕ) → p * 1 ≤ 1 * d → 1 * (d * d) ≤ (p * d + (d - p) * d) * 1
    core p d h = let k : p + (d - p) ≡ d = omega arith in omega (arith, ap (λ (z : ℕ). z * d) k)

rest_below : (x y d : Quotient) → x ≼ natural 1 → natural 1 ⊞ y ≼ x ⊞ d → rest x ⊞ y ≼ d
unfolding rest
rest_below x y d b h = record { le = core x.top x.base y.top y.base d.top d.base b.le h.le }
  where
    core : (p d q f r s : ℕ) → p * 1 ≤ 1 * d → (1 * f + q * 1) * (d * s) ≤ (p * s + r * d) * (1 * f) → ((d - p) * f + q * d) * s ≤ r * (d * f)
    core p d q f r s b h = let k : p + (d - p) ≡ d = omega arith in omega (arith, ap (λ (z : ℕ). z * (f * s)) k)

pub two_floors : (x y d : Quotient) → x ≼ natural 1 → y ≼ natural 1 → natural 1 ⊞ y ≼ x ⊞ d → Mutually (S x) (natural 2 ⊠ S y) d
two_floors x y d a b h =
    record {
      back = ≼_trans (value_grows series a) (≼_trans two_above (⊠-mono (≼_refl (natural 1 ⊞ slack)) (enlarged (natural 2) (S y) (from_one y))));
      forth = made_relative (S x) (natural 2 ⊠ S y) (d ⊠ steep) (from_one x)
          (≼_trans upper
          (≼_trans (⊞-mono lower (≼_refl (y ⊠ steep)))
          (≼_trans (⊞-assoc (S x) (rest x ⊠ steep) (y ⊠ steep))
          (⊞-mono (≼_refl (S x)) (≼_trans (collect (rest x) y steep) (⊠-mono (rest_below x y d a h) (≼_refl steep)))))));
    }
  where
    -- 2 (1 + y c) is 2 + y (2 c)
    doubled : (c : Quotient) → natural 2 ⊠ (natural 1 ⊞ y ⊠ c) ≼ natural 2 ⊞ y ⊠ (natural 2 ⊠ c)
    doubled c = record { le = core y.top y.base c.top c.base }
      where
        core : (p d q f : ℕ) → 2 * (1 * (d * f) + p * q * 1) * (1 * (d * (1 * f))) ≤ (2 * (d * (1 * f)) + p * (2 * q) * 1) * (1 * (1 * (d * f)))
        core p d q f = omega arith

    upper : natural 2 ⊠ S y ≼ natural 2 ⊞ y ⊠ steep
    upper = ≼_trans (⊠-mono (≼_refl (natural 2)) (from_zero y b)) (doubled (natural 1 ⊞ slack))

    lower : natural 2 ≼ S x ⊞ rest x ⊠ steep
    lower =
        ≼_trans two_below
        (≼_trans (value_slope series x (natural 1) (rest x) (natural 1) a (≼_refl (natural 1)) (rest_adds x a)) (⊞-mono (≼_refl (S x)) (⊠-mono (≼_refl (rest x)) slope_below)))
