-- WHAT IS NEAR ONE EXACT VALUE IS NEAR ANOTHER ONE CLOSE BY, with as much more error and range as the two lie apart; the bounds that an analysis ends in,
-- read as an order of fractions; and a relative error keeps the sign. Assumes nothing.
use mathlib.Core.Path.{◌≡◌, ap}
use Prim.Native.Nat.{ℕ, ◌+◌, ◌*◌, ◌^◌, ◌≤◌, ◌<◌}
use native.Mathlib.Nat.{mul-le-mul_right, le_of_mul-le-mul_right}
use native.Mathlib.Omega.{arith}
use lib.IntN.{ℤ, pos}
use lib.Ieee.{Float, Format, low}
use Rattle.exact.specs.Fraction.{Fraction, ratio, whole, ◌≤ℚ◌}
use Rattle.exact.specs.Value.{Within, RelativelyWithin}
use Rattle.exact.proofs.Close.{ring, Close, times, cancel}
use Rattle.exact.proofs.Parts.{part⁺, part⁻, num⁺, num⁻, OneSided, up, down, one_sided}
use Rattle.exact.proofs.Order.{≤ℚ-parts, parts-≤ℚ, within_close}
use Rattle.rounding.proofs.Relative.{Relatively, relative_across}
use Rattle.rounding.proofs.Analyser.{Bound, Approximates, Lower, Upper}

-- ---- A and B are at most n quanta apart
pub exchange : (f : Format) (x : Float) (A B : Fraction) (b c : Bound) (n : ℕ) → Approximates f x A b → Within A B (ratio n (2 ^ low f)) → part⁺ c.lo + part⁻ b.lo + n ≤ part⁺ b.lo + part⁻ c.lo
    → part⁺ b.hi + part⁻ c.hi + n ≤ part⁺ c.hi + part⁻ b.hi → b.err + n ≤ c.err → Approximates f x B c
exchange f x A B b c n h w l u e =
    let k = h.near in
    record {
      defined = w.right;
      near = record { plus = k.plus; minus = k.minus; quanta = k.quanta; close = further k.plus k.minus (num⁺ A) (num⁻ A) A.den (num⁺ B) (num⁻ B) B.den (2 ^ low f) b.err c.err w.left k.close (within_close w) e };
      lower = lower_by (num⁺ A) (num⁻ A) A.den (num⁺ B) (num⁻ B) B.den (2 ^ low f) (part⁺ b.lo) (part⁻ b.lo) (part⁺ c.lo) (part⁻ c.lo) w.left h.lower (within_close w) l;
      upper = upper_by (num⁺ A) (num⁻ A) A.den (num⁺ B) (num⁻ B) B.den (2 ^ low f) (part⁺ b.hi) (part⁻ b.hi) (part⁺ c.hi) (part⁻ c.hi) w.left h.upper (within_close w) u;
    }
  where
    further : (p m P N D Q M E U e g : ℕ) → 0 < D → Close (p * D + N * U) (m * D + P * U) (e * D) → Close ((P * E + M * D) * U) ((N * E + Q * D) * U) (n * (D * E)) → e + n ≤ g
        → Close (p * E + M * U) (m * E + Q * U) (g * E)
    further p m P N D Q M E U e g d h k l = cancel D d (simp ring (omega (arith, simp ring at (times E h), simp ring at k, simp ring at (mul-le-mul_right (D * E) l))))

    lower_by : (P N D Q M E U l l' k k' : ℕ) → 0 < D → l * D + N * U ≤ P * U + l' * D → Close ((P * E + M * D) * U) ((N * E + Q * D) * U) (n * (D * E)) → k + l' + n ≤ l + k'
        → k * E + M * U ≤ Q * U + k' * E
    lower_by P N D Q M E U l l' k k' d h w i =
        le_of_mul-le-mul_right (simp ring (omega (arith, simp ring at (mul-le-mul_right E h), simp ring at w.le, simp ring at (mul-le-mul_right (D * E) i)))) d

    upper_by : (P N D Q M E U l l' k k' : ℕ) → 0 < D → P * U + l' * D ≤ l * D + N * U → Close ((P * E + M * D) * U) ((N * E + Q * D) * U) (n * (D * E)) → l + k' + n ≤ k + l'
        → Q * U + k' * E ≤ k * E + M * U
    upper_by P N D Q M E U l l' k k' d h w i =
        le_of_mul-le-mul_right (simp ring (omega (arith, simp ring at (mul-le-mul_right E h), simp ring at w.ge, simp ring at (mul-le-mul_right (D * E) i)))) d

-- ---- z quanta, U of which are 1, as a fraction
abbrev pub quanta : ℕ → ℤ → Fraction
quanta U z = record { num = z; den = U }

pub lower_fraction : (U : ℕ) (A : Fraction) (z : ℤ) → Lower U A z → quanta U z ≤ℚ A
lower_fraction U A z h = parts-≤ℚ (quanta U z) A h

pub upper_fraction : (U : ℕ) (A : Fraction) (z : ℤ) → Upper U A z → A ≤ℚ quanta U z
upper_fraction U A z h = parts-≤ℚ A (quanta U z) h

-- ---- a relative error below 1 tells that the exact value is not negative
pub exact_nonnegative : (a A : Fraction) (r s : ℕ) → r < s → RelativelyWithin a A (ratio r s) → whole (pos 0) ≤ℚ a → whole (pos 0) ≤ℚ A
exact_nonnegative a A r s l h k =
    parts-≤ℚ (whole (pos 0)) A
    (core (num⁺ a) (num⁻ a) a.den (num⁺ A) (num⁻ A) A.den h.left (one_sided A.num) (≤ℚ-parts (whole (pos 0)) a k) (relative_across a A r s h))
  where
    plain : (p n d P N D : ℕ) → n ≤ p → P ≡ 0 → Relatively p n d P N D r s → N * d ≤ 0 * d
    plain p n d P N D k e h =
        omega (arith, h.le, mul-le-mul_right (N * d) l, mul-le-mul_right (D * s) k, ap (λ (z : ℕ). z * (d * s)) e, ap (λ (z : ℕ). z * (r * d)) e)

    core : (p n d P N D : ℕ) → 0 < d → OneSided P N → 0 * d + n * 1 ≤ p * 1 + 0 * d → Relatively p n d P N D r s → 0 * D + N * 1 ≤ P * 1 + 0 * D
    core p n d P N D E (up e) k h = omega arith
    core p n d P N D E (down e) k h = let t : N ≤ 0 = le_of_mul-le-mul_right (plain p n d P N D (omega arith) e h) E in omega arith
