-- MANTISSA AND EXPONENT BY BITS, as `log2` takes them, of a float from 1 to below 2 ^ 28: with the bits b the exponent e is b / 2 ^ 23 - 127, the mantissa has
-- the digits b % 2 ^ 23 under a field of 127, and the float is the mantissa, from 1 to below 2, times 2 ^ e. Assumes nothing.
use mathlib.Core.Path.{◌≡◌, sym, ap, subst, subst₂, ◌∙◌}
use mathlib.Core.Bool.{false}
use Prim.Native.Nat.{ℕ, ◌+◌, ◌-◌, ◌*◌, ◌/◌, ◌%◌, ◌^◌, ◌≤◌, ◌<◌}
use native.Mathlib.Nat.{mul-lt-mul_of_pos_right, mod-lt}
use native.Mathlib.Omega.{arith}
use lib.Dec.{T}
use lib.Pow.{pow_pos, pow-add}
use lib.Ieee.{Float, binary32, odd, of_bits, to_bits, fits}
use lib.Ieee.Bits.{of_bits-to_bits}
use Rattle.exact.specs.Binary32.{bits}
use Rattle.rounding.proofs.Operations.{Quanta}
use Rattle.math.proofs.Bits.{bits_are, odd_quanta, Between, bits_between}

-- the mantissa's float and the exponent
abbrev pub mantissa_of : ℕ → Float
mantissa_of b = bits (0x3f80_0000 + b % 0x80_0000)

abbrev pub exponent_of_bits : ℕ → ℕ
exponent_of_bits b = b / 0x80_0000 - 127

-- x is m * 2 ^ e, and m, of g quanta, is from 1 to below 2
pub record Scaled (x m : Float) (e : ℕ) : Type 0 where
  pub g : ℕ
  pub mantissa : Quanta (2 ^ 149) m g 0
  pub all : Quanta (2 ^ 149) x (g * 2 ^ e) 0
  pub from_one : 2 ^ 149 ≤ g
  pub below_two : g < 2 * 2 ^ 149

-- ---- MANTISSA AND EXPONENT of the float with the bits b
by_bits : (b : ℕ) → 127 * 2 ^ 23 ≤ b → b < 255 * 2 ^ 23 → Scaled (of_bits binary32 b) (mantissa_of b) (exponent_of_bits b)
by_bits b l h =
    let t = b % 2 ^ 23 in
    let q = 2 ^ 23 + t in
    let b' = 127 * 2 ^ 23 + t in
    let r = mod-lt b (pow_pos 23) in
    let m_is : mantissa_of b ≡ odd 24 false q 126 149 =
    bits_are b' (at_least t) (at_most t r) ∙ ap (λ (z : ℕ). odd 24 false (2 ^ 23 + z) (b' / 2 ^ 23 - 1) 149) (same_mod t r) ∙ ap (λ (z : ℕ). odd 24 false q z 149) (same_div t r) in
    record {
      g = q * 2 ^ 126;
      mantissa = subst (λ (z : Float). Quanta (2 ^ 149) z (q * 2 ^ 126) 0) (sym m_is) (odd_quanta q 126);
      all = subst₂ (λ (z : Float) (n : ℕ). Quanta (2 ^ 149) z n 0) (sym (bits_are b (omega arith) h)) (powers q (b / 2 ^ 23) (above b l)) (odd_quanta q (b / 2 ^ 23 - 1));
      from_one = whole (2 ^ 23) t (2 ^ 126);
      below_two = under (2 ^ 23) t (2 ^ 126) r (pow_pos 126);
    }
  where
    at_least : (t : ℕ) → 2 ^ 23 ≤ 127 * 2 ^ 23 + t
    at_least t = omega arith

    at_most : (t : ℕ) → t < 2 ^ 23 → 127 * 2 ^ 23 + t < 255 * 2 ^ 23
    at_most t h = omega arith

    same_mod : (t : ℕ) → t < 2 ^ 23 → (127 * 2 ^ 23 + t) % 2 ^ 23 ≡ t
    same_mod t h = omega arith

    same_div : (t : ℕ) → t < 2 ^ 23 → (127 * 2 ^ 23 + t) / 2 ^ 23 - 1 ≡ 126
    same_div t h = omega arith

    above : (b : ℕ) → 127 * 2 ^ 23 ≤ b → 127 ≤ b / 2 ^ 23
    above b h = omega arith

    power : (F : ℕ) → 127 ≤ F → F - 1 ≡ 126 + (F - 127)
    power F h = omega arith

    regroup : (q a c : ℕ) → q * (a * c) ≡ q * a * c
    regroup q a c = omega arith

    powers : (q F : ℕ) → 127 ≤ F → q * 2 ^ (F - 1) ≡ q * 2 ^ 126 * 2 ^ (F - 127)
    powers q F h = ap (λ (z : ℕ). q * 2 ^ z) (power F h) ∙ ap (λ (z : ℕ). q * z) (pow-add 2 126 (F - 127)) ∙ regroup q (2 ^ 126) (2 ^ (F - 127))

    whole : (A t Q : ℕ) → A * Q ≤ (A + t) * Q
    whole A t Q = omega arith

    under : (A t Q : ℕ) → t < A → 0 < Q → (A + t) * Q < 2 * (A * Q)
    under A t Q h k = omega (arith, mul-lt-mul_of_pos_right h k)

-- ---- of a float of g quanta, from 1 to below 2 ^ 28
bits_range : (x : Float) (g : ℕ) → Quanta (2 ^ 149) x g 0 → 2 ^ 149 ≤ g → g < 2 ^ 177 → Between 149 177 (to_bits binary32 x)
bits_range = bits_between 149 177 (omega arith)

pub scaled : (x : Float) (g : ℕ) → T (fits binary32 x) → Quanta (2 ^ 149) x g 0 → 2 ^ 149 ≤ g → g < 2 ^ 177 → Scaled x (mantissa_of (to_bits binary32 x)) (exponent_of_bits (to_bits binary32 x))
scaled x g f h l u =
    let r = bits_range x g h l u in
    let b = to_bits binary32 x in
    subst (λ (z : Float). Scaled z (mantissa_of b) (exponent_of_bits b)) (of_bits-to_bits binary32 x f) (by_bits b r.low (omega (arith, r.high)))

-- the exponent's field is 127 or more
pub field_from_127 : (x : Float) (g : ℕ) → Quanta (2 ^ 149) x g 0 → 2 ^ 149 ≤ g → g < 2 ^ 177 → 127 ≤ to_bits binary32 x / 0x80_0000
field_from_127 x g h l u = core (to_bits binary32 x) (bits_range x g h l u).low
  where
    core : (b : ℕ) → 127 * 2 ^ 23 ≤ b → 127 ≤ b / 0x80_0000
    core b h = omega arith
