-- WHAT HAS NO VALUE STAYS WITHOUT ONE: the result of an operation is defined exactly where its operands are, and a quotient where besides
-- its divisor is not 0. A float's value is defined exactly where the float is finite. By the denominators: a sum's, a product's, a minimum's
-- and a maximum's is the product of the operands', which is above 0 just where both are. A choice is defined exactly where both
-- numbers that are compared are, and the one that is chosen; what is made of a floor, where the number is that has the floor.
-- Each lemma is an equivalence: `.0` leads from the result to the operands and `.1` back. Assumes nothing.
use mathlib.Core.Path.{◌≡◌, refl}
use mathlib.Core.Bool.{cond}
use mathlib.Core.Logic.{◌↔◌}
use Prim.Native.Nat.{ℕ, zero, suc, ◌*◌, ◌<◌}
use native.Mathlib.Nat.{mul-pos, lt_irrefl, zero-lt-suc}
use native.Mathlib.Omega.{arith}
use lib.IntN.{ℤ, pos, negsuc, nat_abs}
use lib.Dec.{T}
use lib.Ieee.{Float, nan, inf, fin}
use lib.Ieee.Fits.{down_pos}
use lib.Ieee.Scale.{finite}
use Rattle.exact.specs.Fraction.{Fraction, Defined, power_of_two, over, ◌+ℚ◌, negℚ, ◌-ℚ◌, ◌*ℚ◌, ◌/ℚ◌, ltℚ, minℚ, maxℚ, absℚ, clamp_unitℚ, floorℚ, given, if_below, at_floor}
use Rattle.exact.specs.Value.{value}

-- ---- a product is above 0 exactly where both factors are
pub first_pos : (b U : ℕ) → 0 < b * U → 0 < b
first_pos zero U h = omega arith
first_pos (suc b) U h = omega arith

pub factors_pos : (c d : ℕ) → (0 < c * d) ↔ ((0 < c) × (0 < d))
factors_pos c d = (λ h. (first_pos c d h, first_pos d c (omega arith)), λ h. mul-pos h.0 h.1)

-- ---- operations of two fractions
pub sum_defined : (a b : Fraction) → Defined (a +ℚ b) ↔ (Defined a × Defined b)
sum_defined a b = factors_pos a.den b.den

pub difference_defined : (a b : Fraction) → Defined (a -ℚ b) ↔ (Defined a × Defined b)
difference_defined a b = factors_pos a.den b.den

pub product_defined : (a b : Fraction) → Defined (a *ℚ b) ↔ (Defined a × Defined b)
product_defined a b = factors_pos a.den b.den

pub min_defined : (a b : Fraction) → Defined (minℚ a b) ↔ (Defined a × Defined b)
min_defined a b = factors_pos a.den b.den

pub max_defined : (a b : Fraction) → Defined (maxℚ a b) ↔ (Defined a × Defined b)
max_defined a b = factors_pos a.den b.den

-- a quotient, besides, only where the divisor is not 0
pub quotient_defined : (a b : Fraction) → Defined (a /ℚ b) ↔ (Defined a × Defined b × (0 < nat_abs b.num))
quotient_defined a b = go b.num b.den
  where
    by : (n d : ℕ) → (0 < a.den * n) ↔ (Defined a × (0 < suc d) × (0 < n))
    by n d = let e = factors_pos a.den n in (λ h. ((e.0 h).0, zero-lt-suc d, (e.0 h).1), λ h. e.1 (h.0, h.2))

    go : (n : ℤ) (d : ℕ) → Defined (over a n d) ↔ (Defined a × (0 < d) × (0 < nat_abs n))
    go n zero = (λ h. absurd (lt_irrefl 0 h), λ h. h.1)
    go (pos n) (suc d) = by n d
    go (negsuc n) (suc d) = by (suc n) d

-- ---- operations of one fraction keep its denominator
pub negation_defined : (a : Fraction) → Defined (negℚ a) ↔ Defined a
negation_defined a = (λ h. h, λ h. h)

pub abs_defined : (a : Fraction) → Defined (absℚ a) ↔ Defined a
abs_defined a = (λ h. h, λ h. h)

pub unit_defined : (a : Fraction) → Defined (clamp_unitℚ a) ↔ Defined a
unit_defined a = (λ h. h, λ h. h)

pub power_defined : (z : ℤ) → Defined (power_of_two z)
power_defined z = down_pos z

-- ---- choices, and with operands that are defined what they choose
pub given_defined : (d : ℕ) (x : Fraction) → Defined (given d x) ↔ ((0 < d) × Defined x)
unfolding given
given_defined zero x = (λ h. absurd (lt_irrefl 0 h), λ h. h.0)
given_defined (suc d) x = (λ h. (zero-lt-suc d, h), λ h. h.1)

pub given_is : (d : ℕ) → 0 < d → (x : Fraction) → given d x ≡ x
unfolding given
given_is zero h x = absurd (lt_irrefl 0 h)
given_is (suc d) h x = refl

pub choice_defined : (a b x y : Fraction) → Defined (if_below a b x y) ↔ (Defined a × Defined b × Defined (cond (ltℚ a b) x y))
unfolding if_below
choice_defined a b x y =
    let f = factors_pos a.den b.den in
    (λ h. let g = (given_defined _ _).0 h in ((f.0 g.0).0, (f.0 g.0).1, g.1), λ h. (given_defined _ _).1 (f.1 (h.0, h.1), h.2))

pub choice_is : (a b : Fraction) → Defined a → Defined b → (x y : Fraction) → if_below a b x y ≡ cond (ltℚ a b) x y
unfolding if_below
choice_is a b h k x y = given_is _ (mul-pos h k) _

pub at_floor_defined : (f : ℤ → Fraction) (a : Fraction) → Defined (at_floor f a) ↔ (Defined a × Defined (f (floorℚ a)))
unfolding at_floor
at_floor_defined f a = (λ h. (given_defined _ _).0 h, λ h. (given_defined _ _).1 h)

pub at_floor_is : (f : ℤ → Fraction) (a : Fraction) → Defined a → at_floor f a ≡ f (floorℚ a)
unfolding at_floor
at_floor_is f a h = given_is _ h _

-- ---- floats
pub value_defined : (x : Float) → Defined (value x) ↔ T (finite x)
unfolding value
value_defined nan = (λ h. lt_irrefl 0 h, λ h. absurd h)
value_defined (inf s) = (λ h. lt_irrefl 0 h, λ h. absurd h)
value_defined (fin s m e) = (λ h. tt, λ h. down_pos e)
