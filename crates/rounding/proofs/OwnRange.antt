-- A RESULT AS AN INPUT THAT STANDS FOR ITSELF: a float that is near an exact value between two bounds lies between the bounds that are wider by the
-- error. A next analysis can take it so as its own value, with no error. Assumes nothing.
use mathlib.Core.Path.{◌≡◌, ap}
use Prim.Native.Nat.{ℕ, ◌+◌, ◌*◌, ◌^◌, ◌≤◌, ◌<◌}
use native.Mathlib.Nat.{mul-le-mul_right, le_of_mul-le-mul_right}
use native.Mathlib.Omega.{arith}
use lib.IntN.{pos, neg_ℤ, ◌+ℤ◌}
use lib.Dec.{T}
use lib.Ieee.{Float, Format, low, fits}
use lib.Ieee.Scale.{finite}
use Rattle.exact.specs.Fraction.{Fraction}
use Rattle.exact.specs.Value.{value}
use Rattle.exact.proofs.Close.{Close}
use Rattle.exact.proofs.Parts.{part⁺, part⁻, num⁺, num⁻, neg⁺, neg⁻, add_parts}
use Rattle.rounding.proofs.Quanta.{quanta_value, quanta_defined}
use Rattle.exact.proofs.Defined.{value_defined}
use Rattle.rounding.proofs.Analyser.{Bound, Approximates}
use Rattle.rounding.proofs.Inputs.{own_near}

pub approximates_finite : (f : Format) (x : Float) (A : Fraction) (b : Bound) → Approximates f x A b → T (finite x)
approximates_finite f x A b h = (value_defined x).0 (quanta_defined (2 ^ low f) x h.near.plus h.near.minus h.near.quanta)

abbrev pub widened : Bound → Bound
widened b = record { lo = b.lo +ℤ neg_ℤ (pos b.err); hi = b.hi +ℤ pos b.err; err = 0 }

pub own_range : (f : Format) (x : Float) (A : Fraction) (b : Bound) → T (fits f x) → Approximates f x A b → Approximates f x (value x) (widened b)
own_range f x A b t h =
    let n = h.near in
    let d = quanta_defined U x n.plus n.minus n.quanta in
    let v = quanta_value U x n.plus n.minus n.quanta in
    record {
      defined = d;
      near = own_near f x t ((value_defined x).0 d);
      lower = least (num⁺ (value x)) (num⁻ (value x)) (value x).den n.plus n.minus (num⁺ A) (num⁻ A) A.den (part⁺ b.lo) (part⁻ b.lo) (part⁺ (b.lo +ℤ neg_ℤ (pos b.err))) (part⁻ (b.lo +ℤ neg_ℤ (pos b.err))) b.err
          h.defined v n.close h.lower (omega (arith, add_parts b.lo (neg_ℤ (pos b.err)), neg⁺ (pos b.err), neg⁻ (pos b.err)));
      upper = most (num⁺ (value x)) (num⁻ (value x)) (value x).den n.plus n.minus (num⁺ A) (num⁻ A) A.den (part⁺ b.hi) (part⁻ b.hi) (part⁺ (b.hi +ℤ pos b.err)) (part⁻ (b.hi +ℤ pos b.err)) b.err
          h.defined v n.close h.upper (omega (arith, add_parts b.hi (pos b.err)));
    }
  where
    U : ℕ
    U = 2 ^ low f

    -- x is p - n quanta, at most e from A = (Q - M) / E, which is at least l - l', and z - z' is l - l' - e
    least : (P N D p n Q M E l l' z z' e : ℕ) → 0 < E → P * U + n * D ≡ N * U + p * D → Close (p * E + M * U) (n * E + Q * U) (e * E) → l * E + M * U ≤ Q * U + l' * E
        → z + (l' + e) ≡ z' + l → z * D + N * U ≤ P * U + z' * D
    least P N D p n Q M E l l' z z' e d v c h i =
        let k : l + n ≤ l' + p + e = le_of_mul-le-mul_right (omega (arith, c.ge)) d in
        omega (arith, mul-le-mul_right D k, ap (λ (y : ℕ). y * D) i)

    most : (P N D p n Q M E l l' z z' e : ℕ) → 0 < E → P * U + n * D ≡ N * U + p * D → Close (p * E + M * U) (n * E + Q * U) (e * E) → Q * U + l' * E ≤ l * E + M * U
        → z + l' ≡ z' + (l + e) → P * U + z' * D ≤ z * D + N * U
    most P N D p n Q M E l l' z z' e d v c h i =
        let k : p + l' ≤ l + n + e = le_of_mul-le-mul_right (omega (arith, c.le)) d in
        omega (arith, mul-le-mul_right D k, ap (λ (y : ℕ). y * D) i)
