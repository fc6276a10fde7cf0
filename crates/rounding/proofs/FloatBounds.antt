-- FLOATS AS INPUTS OF THE ANALYSER: a float within a distance of a fraction, the least and the largest quanta that a float can have, and floats above 0. Assumes nothing.
use mathlib.Core.Path.{◌≡◌, refl, ap}
use mathlib.Core.Bool.{Bool, true, false, cond}
use Prim.Native.Nat.{ℕ, suc, ◌+◌, ◌*◌, ◌^◌, ◌≤◌, ◌<◌}
use native.Mathlib.Nat.{mul-le-mul_right, lt_of_mul-lt-mul_right, not-le_of_lt}
use native.Mathlib.Omega.{arith}
use lib.IntN.{pos}
use lib.Dec.{T}
use lib.Pow.{pow_pos}
use lib.Ieee.{Float, Format, low, fits, of_bits, le}
use lib.Ieee.Scale.{finite, overflow}
use Rattle.exact.specs.Fraction.{Fraction, Defined, ratio, ◌≤ℚ◌}
use Rattle.exact.specs.Value.{value, Within}
use Rattle.exact.specs.Binary32.{zero₃₂}
use Rattle.exact.proofs.Close.{ring, Close, cancel}
use Rattle.exact.proofs.Parts.{num⁺, num⁻}
use Rattle.exact.proofs.Order.{≤ℚ-parts, ltℚ_parts, within_close, le_value}
use Rattle.exact.proofs.Defined.{value_defined}
use Rattle.rounding.proofs.Quanta.{in_format, quanta_of, quanta_value, quanta_defined}
use Rattle.rounding.proofs.Analyser.{Lower, Upper, Near}
use Rattle.rounding.proofs.Signs.{Positive, positive_parts, parts_positive}

-- ---- a float within e quanta of a fraction, as an input of the analyser
pub within_near : (f : Format) (x : Float) (A : Fraction) (e : ℕ) → T (fits f x) → Within (value x) A (ratio e (2 ^ low f)) → Near (2 ^ low f) x A e
within_near f x A e t h =
    let U = 2 ^ low f in
    let q = quanta_of f x t ((value_defined x).0 h.left) in
    record {
      plus = q.plus;
      minus = q.minus;
      quanta = q.quanta;
      close = core q.plus q.minus (num⁺ (value x)) (num⁻ (value x)) (value x).den (num⁺ A) (num⁻ A) A.den U h.left (quanta_value U x q.plus q.minus q.quanta) (within_close h);
    }
  where
    core : (p n P N D Q M E U : ℕ) → 0 < D → P * U + n * D ≡ N * U + p * D → Close ((P * E + M * D) * U) ((N * E + Q * D) * U) (e * (D * E)) → Close (p * E + M * U) (n * E + Q * U) (e * E)
    core p n P N D Q M E U d i h = cancel D d (simp ring (omega (arith, simp ring at h, simp ring at (ap (λ (z : ℕ). z * E) i))))

-- a float above 0 is at least one quantum
pub positive_quantum : (f : Format) (x : Float) → T (fits f x) → Defined (value x) → Positive (value x) → Lower (2 ^ low f) (value x) (pos 1)
positive_quantum f x t d h =
    let U = 2 ^ low f in
    let q = quanta_of f x t ((value_defined x).0 d) in
    core q.plus q.minus (num⁺ (value x)) (num⁻ (value x)) (value x).den U (pow_pos (low f)) (quanta_value U x q.plus q.minus q.quanta) (positive_parts (value x) h)
  where
    core : (p n P N D U : ℕ) → 0 < U → P * U + n * D ≡ N * U + p * D → N < P → 1 * D + N * U ≤ P * U + 0 * D
    core p n P N D U u i h = step (lt_of_mul-lt-mul_right D (less (mul-le-mul_right U h)))
      where
        less : suc N * U ≤ P * U → n * D < p * D
        less k = omega arith

        step : n < p → 1 * D + N * U ≤ P * U + 0 * D
        step k = omega (arith, mul-le-mul_right D k)

-- a finite float of the format is below the quanta at which it would overflow
pub finite_upper : (f : Format) (x : Float) → T (fits f x) → T (finite x) → Upper (2 ^ low f) (value x) (pos (overflow f))
finite_upper f x t h =
    let w = in_format f x t h in
    let g = w.significand * 2 ^ w.shift in
    let p = cond w.negative 0 g in
    let n = cond w.negative g 0 in
    core p n (num⁺ (value x)) (num⁻ (value x)) (value x).den (2 ^ low f) (overflow f) (quanta_value (2 ^ low f) x p n w.quanta) (below w.negative g w.range)
  where
    below : (b : Bool) (g : ℕ) → g < overflow f → cond b 0 g ≤ overflow f
    below true g h = omega arith
    below false g h = omega arith

    core : (p n P N D U O : ℕ) → P * U + n * D ≡ N * U + p * D → p ≤ O → P * U + 0 * D ≤ O * D + N * U
    core p n P N D U O i h = omega (arith, mul-le-mul_right D h)

-- a float that is near enough to a number of at least l quanta is above 0
pub near_positive : (f : Format) (x : Float) (A : Fraction) (l e : ℕ) → Defined A → e < l → Near (2 ^ low f) x A e → Lower (2 ^ low f) A (pos l) → Positive (value x)
near_positive f x A l e d h n k =
    let U = 2 ^ low f in
    parts_positive (value x)
    (back n.plus n.minus (num⁺ (value x)) (num⁻ (value x)) (value x).den U (quanta_defined U x n.plus n.minus n.quanta) (quanta_value U x n.plus n.minus n.quanta) (core n.plus n.minus (num⁺ A) (num⁻ A) A.den U d n.close k))
  where
    core : (p n Q M E U : ℕ) → 0 < E → Close (p * E + M * U) (n * E + Q * U) (e * E) → l * E + M * U ≤ Q * U + 0 * E → n < p
    core p n Q M E U o c k = lt_of_mul-lt-mul_right E (last (mul-le-mul_right E h))
      where
        last : suc e * E ≤ l * E → n * E < p * E
        last i = omega (arith, c.ge)

    back : (p n P N D U : ℕ) → 0 < D → P * U + n * D ≡ N * U + p * D → n < p → N < P
    back p n P N D U o i h = lt_of_mul-lt-mul_right U (last (mul-le-mul_right D h))
      where
        last : suc n * D ≤ p * D → N * U < P * U
        last k = omega arith

-- ---- a float above 0 is not at most 0
pub positive_test : (x : Float) → Defined (value x) → Positive (value x) → le x zero₃₂ ≡ false
unfolding value of_bits
positive_test x d p = go (le x zero₃₂) (le_value x zero₃₂ ((value_defined x).0 d) tt).0
  where
    go : (b : Bool) → (T b → value x ≤ℚ ratio 0 1) → b ≡ false
    go false k = refl
    go true k = absurd (not-le_of_lt (ltℚ_parts (ratio 0 1) (value x) p) (≤ℚ-parts (value x) (ratio 0 1) (k tt)))
