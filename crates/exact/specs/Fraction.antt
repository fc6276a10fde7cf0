-- EXACT FRACTIONS. A fraction is a whole number over a natural number, and is defined where the natural number is above 0.
-- What has no value is a fraction over 0: a quotient by zero, and the value of a NaN or of an infinity (Value.antt).
-- Every operation that gives a fraction keeps that: its result is defined only where its operands are (proofs/Defined.antt).
-- `ltℚ` and `floorℚ` give no fraction, and what they answer of a fraction over 0 means nothing: where a comparison or a floor
-- alone decides which fraction it is, `if_below` and `at_floor` choose. Definitions only.
use Rattle.std.specs.Prelude.{Bool, cond, ℕ, zero, suc, ◌*◌, ◌/◌, ◌<◌, ℤ, pos, negsuc, neg_ℤ, nat_abs, ◌+ℤ◌, ◌*ℤ◌, ◌≤ℤ◌}
use Rattle.std.specs.Int.Signed.{lt_z}
use Rattle.std.specs.Float.Ieee.{up, down}

pub record Fraction : Type 0 where
  pub num : ℤ
  pub den : ℕ

-- The fraction has a value.
abbrev pub Defined : Fraction → Type 0
Defined a = 0 < a.den

-- A quotient of two natural numbers, a whole number, a signed quotient, and a power of two.
abbrev pub ratio : ℕ → ℕ → Fraction
ratio n d = record { num = pos n; den = d }

abbrev pub whole : ℤ → Fraction
whole z = record { num = z; den = 1 }

-- negative where s is true
abbrev pub signed : Bool → ℕ → ℕ → Fraction
signed s n d = record { num = cond s (neg_ℤ (pos n)) (pos n); den = d }

abbrev pub power_of_two : ℤ → Fraction
power_of_two z = ratio (up z) (down z)

-- ---- the operations
infixl 6 ◌+ℚ◌
abbrev pub ◌+ℚ◌ : Fraction → Fraction → Fraction
a +ℚ b = record { num = a.num *ℤ pos b.den +ℤ b.num *ℤ pos a.den; den = a.den * b.den }

abbrev pub negℚ : Fraction → Fraction
negℚ a = record { num = neg_ℤ a.num; den = a.den }

infixl 6 ◌-ℚ◌
abbrev pub ◌-ℚ◌ : Fraction → Fraction → Fraction
a -ℚ b = a +ℚ negℚ b

infixl 7 ◌*ℚ◌
abbrev pub ◌*ℚ◌ : Fraction → Fraction → Fraction
a *ℚ b = record { num = a.num *ℤ b.num; den = a.den * b.den }

-- a over n / d. Where n is 0 the result is a fraction over 0, and so it is where n / d has no value.
abbrev pub over : Fraction → ℤ → ℕ → Fraction
over a n zero = ratio 0 0
over a (pos n) (suc d) = record { num = a.num *ℤ pos (suc d); den = a.den * n }
over a (negsuc n) (suc d) = record { num = neg_ℤ (a.num *ℤ pos (suc d)); den = a.den * suc n }

infixl 7 ◌/ℚ◌
abbrev pub ◌/ℚ◌ : Fraction → Fraction → Fraction
a /ℚ b = over a b.num b.den

-- ---- order, by multiplying across
infix 4 ◌≤ℚ◌
abbrev pub ◌≤ℚ◌ : Fraction → Fraction → Type 0
a ≤ℚ b = (a.num *ℤ pos b.den) ≤ℤ (b.num *ℤ pos a.den)

abbrev pub ltℚ : Fraction → Fraction → Bool
ltℚ a b = lt_z (a.num *ℤ pos b.den) (b.num *ℤ pos a.den)

-- The smaller and the larger of two fractions, over the product of their denominators; the size; and a clamp to 0..1.
abbrev pub smaller : ℤ → ℤ → ℤ
smaller x y = cond (lt_z y x) y x

abbrev pub larger : ℤ → ℤ → ℤ
larger x y = cond (lt_z x y) y x

abbrev pub minℚ : Fraction → Fraction → Fraction
minℚ a b = record { num = smaller (a.num *ℤ pos b.den) (b.num *ℤ pos a.den); den = a.den * b.den }

abbrev pub maxℚ : Fraction → Fraction → Fraction
maxℚ a b = record { num = larger (a.num *ℤ pos b.den) (b.num *ℤ pos a.den); den = a.den * b.den }

abbrev pub absℚ : Fraction → Fraction
absℚ a = ratio (nat_abs a.num) a.den

abbrev pub clamp_unitℚ : Fraction → Fraction
clamp_unitℚ a = record { num = smaller (larger a.num (pos 0)) (pos a.den); den = a.den }

-- The largest whole number not above a: -(n + 1) / d lies in the step that ends at -(n / d).
abbrev pub floor_over : ℤ → ℕ → ℤ
floor_over (pos n) d = pos (n / d)
floor_over (negsuc n) d = negsuc (n / d)

abbrev pub floorℚ : Fraction → ℤ
floorℚ a = floor_over a.num a.den

-- ---- what is chosen by a comparison or by a floor: it has no value where what is compared, or what has the floor, has none
-- x, and no value where d is 0
unfoldable pub given : ℕ → Fraction → Fraction
given zero x = ratio 0 0
given (suc d) x = x

-- x where a is below b, and y where it is not
unfoldable pub if_below : Fraction → Fraction → Fraction → Fraction → Fraction
if_below a b x y = given (a.den * b.den) (cond (ltℚ a b) x y)

-- what f is at the floor of a
unfoldable pub at_floor : (ℤ → Fraction) → Fraction → Fraction
at_floor f a = given a.den (f (floorℚ a))
