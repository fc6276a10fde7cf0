-- THE PHASES OF A CURVE, for which `fract` is exact: every finite phase from 0 up, and the walk's positions from -1 to 0, which are multiples of 2 ^ -24. Assumes nothing.
use mathlib.Core.Path.{◌≡◌, ap}
use Prim.Native.Nat.{ℕ, ◌+◌, ◌*◌, ◌^◌, ◌≤◌, ◌<◌}
use native.Mathlib.Omega.{arith}
use lib.IntN.{pos}
use lib.Dec.{T, lit<}
use lib.Ieee.{Float, binary32, fits}
use lib.Ieee.Fits.{sub-fits}
use lib.Ieee.Scale.{finite}
use Rattle.exact.specs.Fraction.{Fraction, Defined, ratio, whole, negℚ, floorℚ, ◌+ℚ◌, ◌≤ℚ◌}
use Rattle.exact.specs.Value.{value, Equal}
use Rattle.exact.proofs.Parts.{num⁺, num⁻, sum_parts}
use Rattle.exact.proofs.Defined.{value_defined}
use Rattle.exact.proofs.Order.{≤ℚ-parts, parts-≤ℚ}
use Rattle.exact.proofs.Floor.{floor_below, floor_above}
use Rattle.rounding.proofs.Fract.{fract_exact, fract_exact_negative}
use Rattle.exact.proofs.Inequality.{minus_at_most, at_least_minus, lt_le}
use Rattle.floor.specs.Formula.{floor_of, fract_of}
use Rattle.floor.specs.Exact.{fractℚ}
use Rattle.floor.proofs.FloorLaws.{floor_value}
use Rattle.floor.proofs.Turned.{Turned}

pub data Phase (x : Float) : Type 0 where
  from_zero : T (finite x) → whole (pos 0) ≤ℚ value x → Phase x
  walked : (k : ℕ) → 0 < k → k ≤ 2 ^ 24 → Equal (value x) (negℚ (ratio k (2 ^ 24))) → Phase x

pub phase_finite : (x : Float) → Phase x → T (finite x)
phase_finite x (from_zero t h) = t
phase_finite x (walked k K l e) = (value_defined x).0 e.left

-- of any number it lies from 0 to 1
pub fract_above : (a : Fraction) → Defined a → ratio 0 1 ≤ℚ fractℚ a
fract_above a d = at_least_minus a (whole (floorℚ a)) (ratio 0 1) (lit< tt) (plain a (whole (floorℚ a)) (floor_below a d))
  where
    plain : (a z : Fraction) → z ≤ℚ a → ratio 0 1 +ℚ z ≤ℚ a
    plain a z h = parts-≤ℚ (ratio 0 1 +ℚ z) a (core (num⁺ a) (num⁻ a) a.den (num⁺ z) (num⁻ z) z.den (num⁺ (ratio 0 1 +ℚ z)) (num⁻ (ratio 0 1 +ℚ z)) (sum_parts (ratio 0 1) z) (≤ℚ-parts z a h))
      where
        core : (P N D Q M E S R : ℕ) → S + (0 * E + M * 1) ≡ R + (0 * E + Q * 1) → Q * D + N * E ≤ P * E + M * D → S * D + N * (1 * E) ≤ P * (1 * E) + R * D
        core P N D Q M E S R e h = omega (arith, ap (λ (x : ℕ). x * D) e)

pub fract_below : (a : Fraction) → Defined a → fractℚ a ≤ℚ ratio 1 1
fract_below a d = minus_at_most a (whole (floorℚ a)) (ratio 1 1) (lit< tt) (turned a (whole (floorℚ a)) (lt_le a (whole (floorℚ a) +ℚ whole (pos 1)) (floor_above a d)))
  where
    turned : (a z : Fraction) → a ≤ℚ z +ℚ whole (pos 1) → a ≤ℚ ratio 1 1 +ℚ z
    turned a z h =
        parts-≤ℚ a (ratio 1 1 +ℚ z)
        (core (num⁺ a) (num⁻ a) a.den (num⁺ z) (num⁻ z) z.den (num⁺ (ratio 1 1 +ℚ z)) (num⁻ (ratio 1 1 +ℚ z)) (num⁺ (z +ℚ whole (pos 1))) (num⁻ (z +ℚ whole (pos 1)))
        (sum_parts (ratio 1 1) z) (sum_parts z (whole (pos 1))) (≤ℚ-parts a (z +ℚ whole (pos 1)) h))
      where
        core : (P N D Q M E S R X Y : ℕ) → S + (0 * E + M * 1) ≡ R + (1 * E + Q * 1) → X + (M * 1 + 0 * E) ≡ Y + (Q * 1 + 1 * E) → P * (E * 1) + Y * D ≤ X * D + N * (E * 1) → P * (1 * E) + R * D ≤ S * D + N * (1 * E)
        core P N D Q M E S R X Y i j h = omega (arith, ap (λ (x : ℕ). x * D) i, ap (λ (x : ℕ). x * D) j)

-- fract IS EXACT on them
pub fract_value : (x : Float) → T (fits binary32 x) → Phase x → Equal (value (fract_of x)) (fractℚ (value x))
unfolding fract_of
fract_value x f (from_zero t h) = fract_exact binary32 x (floor_of x) f t h (floor_value x f t)
fract_value x f (walked k K l e) = fract_exact_negative binary32 x (floor_of x) k K l e (floor_value x f ((value_defined x).0 e.left))

pub fract_fits : (x : Float) → T (fits binary32 (fract_of x))
unfolding fract_of
fract_fits x = sub-fits binary32 x (floor_of x)

-- so it is a part of a turn, the exact one
pub fract_turned : (x : Float) → T (fits binary32 x) → Phase x → Turned (fract_of x) (fractℚ (value x)) (ratio 1 1)
fract_turned x f p =
    let d = (value_defined x).1 (phase_finite x p) in
    record { holds = fract_fits x; is = fract_value x f p; above = fract_above (value x) d; below = fract_below (value x) d }
