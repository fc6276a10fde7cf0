-- THE MAXIMUM OF TWO FLOATS: with a number it is a number, with a NaN the other, the format holds it, and of finite floats it is the maximum of their values. Assumes nothing.
use mathlib.Core.Logic.{inl, inr}
use mathlib.Core.Path.{◌≡◌, refl}
use mathlib.Core.Bool.{Bool, true, false, not, cond}
use lib.Dec.{T}
use lib.Ieee.{Float, nan, inf, fin, binary32, of_bits, fits, is_nan, lt, eq}
use lib.Ieee.Scale.{finite}
use Rattle.exact.specs.Fraction.{maxℚ}
use Rattle.exact.specs.Value.{value, Equal}
use Rattle.exact.specs.Binary32.{zero₃₂}
use Rattle.exact.proofs.Defined.{value_defined}
use Rattle.exact.proofs.Order.{AtMost, equal_refl, equal_sym, equal_at_most, at_most_trans, eq_value, lt_at_most, nlt_at_most}
use Rattle.exact.proofs.Lipschitz.{IsMax, downward, best_unique, max_is_max}
use Rattle.math.specs.Formulas.{unsigned_zero, max_of}
use Rattle.math.proofs.Nan.{not_nan, finite_number}

-- a float of binary32 that is no NaN
pub record Number (x : Float) : Type 0 where
  pub holds : T (fits binary32 x)
  pub number : T (not (is_nan x))

zero_number : Number zero₃₂
unfolding is_nan fits of_bits
zero_number = record { holds = tt; number = tt }

either : (b : Bool) {x y : Float} → Number x → Number y → Number (cond b x y)
either true h k = h
either false h k = k

-- ---- a number and a NaN, or any float of the format
pub max_nan : (x : Float) → T (not (is_nan x)) → max_of x nan ≡ x
unfolding max_of is_nan
max_nan nan n = absurd n
max_nan (inf s) n = refl
max_nan (fin s m e) n = refl

pub max_number : (x y : Float) → Number x → T (fits binary32 y) → Number (max_of x y)
unfolding max_of
max_number x y h f = go (is_nan x) (is_nan y) h.number (λ n. record { holds = f; number = n })
  where
    go : (a b : Bool) → T (not a) → (T (not b) → Number y) → Number (cond a y (cond b x (cond (lt y x) x (cond (lt x y) y (unsigned_zero x)))))
    go true b n k = absurd n
    go false true n k = h
    go false false n k = either (lt y x) h (either (lt x y) (k tt) (either (eq x zero₃₂) zero_number h))

-- ---- two finite floats
unsigned_value : (x : Float) → T (finite x) → Equal (value (unsigned_zero x)) (value x)
unfolding of_bits
unsigned_value x X = go (eq x zero₃₂) (eq_value x zero₃₂ X tt).0
  where
    go : (b : Bool) → (T b → Equal (value x) (value zero₃₂)) → Equal (value (cond b zero₃₂ x)) (value x)
    go true k = equal_sym (k tt)
    go false k = equal_refl ((value_defined x).1 X)

pub max_is : (x y : Float) → T (finite x) → T (finite y) → Equal (value (max_of x y)) (maxℚ (value x) (value y))
unfolding max_of
max_is x y X Y =
    go (is_nan x) (is_nan y) (lt y x) (lt x y) (not_nan x (finite_number x X)) (not_nan y (finite_number y Y)) (lt_at_most y x Y X) (nlt_at_most y x Y X) (lt_at_most x y X Y) (nlt_at_most x y X Y)
  where
    own : Equal (value x) (value x)
    own = equal_refl ((value_defined x).1 X)

    its : Equal (value y) (value y)
    its = equal_refl ((value_defined y).1 Y)

    known : (z : Float) → IsMax (value z) (value x) (value y) → Equal (value z) (maxℚ (value x) (value y))
    known z i = best_unique downward i (max_is_max (value x) (value y) ((value_defined x).1 X) ((value_defined y).1 Y))

    -- what has the value of x, where that is at least y's
    first : (z : Float) → Equal (value z) (value x) → AtMost (value y) (value x) → Equal (value z) (maxℚ (value x) (value y))
    first z e h = known z (record { left = equal_at_most (equal_sym e); right = at_most_trans h (equal_at_most (equal_sym e)); reached = inl (equal_at_most e) })

    second : AtMost (value x) (value y) → Equal (value y) (maxℚ (value x) (value y))
    second h = known y (record { left = h; right = equal_at_most its; reached = inr (equal_at_most its) })

    go : (a b c d : Bool) → T (not a) → T (not b) → (T c → AtMost (value y) (value x)) → (T (not c) → AtMost (value x) (value y)) → (T d → AtMost (value x) (value y)) → (T (not d) → AtMost (value y) (value x))
        → Equal (value (cond a y (cond b x (cond c x (cond d y (unsigned_zero x)))))) (maxℚ (value x) (value y))
    go true b c d n m h k l o = absurd n
    go false true c d n m h k l o = absurd m
    go false false true d n m h k l o = first x own (h tt)
    go false false false true n m h k l o = second (k tt)
    go false false false false n m h k l o = first (unsigned_zero x) (unsigned_value x X) (o tt)
