-- A FRACTION ROUNDED TO BINARY32, BY ITS BITS. In units of 2 ^ -149 it is (q * D + R) * 2 ^ k / D, where q has
-- all 24 digits of a significand, or no digit is dropped behind it. Then the bits are k in the exponent's field, and
-- in the others q or the next number up, by R / D. Assumes nothing.
use mathlib.Core.Path.{◌≡◌, sym, ap, ◌∙◌}
use mathlib.Core.Bool.{Bool, false, cond}
use mathlib.Core.Logic.{◌⊎◌, inl, inr}
use Prim.Native.Nat.{ℕ, suc, ◌+◌, ◌-◌, ◌*◌, ◌/◌, ◌%◌, ◌^◌, ◌≤◌, ◌<◌, zero-le, compare}
use native.Mathlib.Nat.{le_refl, le_trans, le_of_eq, le_antisymm, lt_of_lt_of_le, lt_of_le_of_lt, eq-or-lt_of_le}
use native.Mathlib.Nat.{mul-pos, mul-le-mul_right, mul-lt-mul_of_pos_right, mul-div_cancel, pow-suc}
use native.Mathlib.Nat.{le-div_iff_mul-le, div-lt_iff_lt-mul}
use native.Mathlib.Omega.{arith}
use lib.Arith.{digits_div, digits_mod}
use lib.Pow.{pow_pos, pow-add, pow_mono, shl_lt, shl-shr}
use lib.Ieee.{Float, nan, inf, fin, binary32, up, down, size, nearest, round, of_bits, to_bits}
use lib.Ieee.Digits.{size-lt, size-le}
use lib.Ieee.Fits.{down_pos, nearest-le, round-fits}
use lib.Ieee.Exact.{HasValue}
use lib.Ieee.Nearest.{nearest-ge, closest, closest_same}
use lib.Ieee.Scale.{grid, round_val}
use lib.Ieee.Bits.{of_bits-to_bits}
use Rattle.math.proofs.Bits.{pow_less}

-- q has 24 digits, or no digit is dropped behind it.
abbrev pub Leading : ℕ → ℕ → Type 0
Leading q k = (2 ^ 23 ≤ q) ⊎ (k ≡ 0)

-- ---- how many digits are dropped of a number w whose leading digits are q
leading : (w q k : ℕ) → q < 2 ^ 24 → Leading q k → q * 2 ^ k ≤ w → w < suc q * 2 ^ k → size w - 24 ≡ k
leading w q k h c l u = le_antisymm most (least c)
  where
    fewer : (z : ℕ) → z ≤ 24 + k → z - 24 ≤ k
    fewer z h = omega arith

    more : (z : ℕ) → 23 + k < z → k ≤ z - 24
    more z h = omega arith

    none : (z : ℕ) → k ≡ 0 → k ≤ z
    none z h = omega arith

    most : size w - 24 ≤ k
    most =
        let s = lt_of_lt_of_le u (mul-le-mul_right (2 ^ k) h) in
        fewer (size w) (size-le w (24 + k) (rw (pow-add 2 24 k) s))

    least : Leading q k → k ≤ size w - 24
    least (inl f) =
        let s = lt_of_le_of_lt (le_trans (mul-le-mul_right (2 ^ k) f) l) (size-lt w) in
        more (size w) (pow_less (23 + k) (size w) (rw (pow-add 2 23 k) s))
    least (inr e) = none (size w - 24) e

-- ---- the fraction in units of 2 ^ -149
module _ (n D q R k : ℕ) (d : R < D) (h : q < 2 ^ 24) (c : Leading q k) (e : n ≡ (q * D + R) * 2 ^ k) where
  positive : 0 < D
  positive = lt_of_le_of_lt zero-le d

  dropped : size (n / D) - 24 ≡ k
  dropped =
      let p = pow_pos k in
      let r = mul-lt-mul_of_pos_right d p in
      leading (n / D) q k h c ((le-div_iff_mul-le positive).1 (omega arith))
      ((div-lt_iff_lt-mul positive).1 (omega arith))

  kept : closest n (D * 2 ^ k) ≡ nearest q (compare (R * 2) D)
  kept =
      closest_same n (D * 2 ^ k) (q * D + R) D (mul-pos positive (pow_pos k)) positive (rw e (omega arith))
      ∙ ap (λ (z : ℕ). nearest z (compare ((q * D + R) % D * 2) D)) (digits_div q d)
      ∙ ap (λ (z : ℕ). nearest q (compare (z * 2) D)) (digits_mod q d)

  units : closest n (D * 2 ^ (size (n / D) - 24)) * 2 ^ (size (n / D) - 24) ≡ nearest q (compare (R * 2) D) * 2 ^ k
  units = ap (λ (z : ℕ). closest n (D * 2 ^ z) * 2 ^ z) dropped ∙ ap (λ (z : ℕ). z * 2 ^ k) kept

-- ---- the bits of a number of units
abbrev bits_of : ℕ → ℕ
bits_of a = (size a - 24) * 2 ^ 23 + a / 2 ^ (size a - 24)

value_bits : (x : Float) (a : ℕ) → HasValue x false a (2 ^ 149) → to_bits binary32 x ≡ bits_of a
unfolding to_bits
value_bits nan a v = absurd v
value_bits (inf s) a v = absurd v
value_bits (fin s m e) a v =
    let g = m * up e * 2 ^ 149 / down e in
    ap (λ (b : Bool). cond b (2 ^ 31) 0 + (size g - 24) * 2 ^ 23 + g / 2 ^ (size g - 24)) v.0
    ∙ flat ((size g - 24) * 2 ^ 23) (g / 2 ^ (size g - 24))
    ∙ ap bits_of (ap (λ (y : ℕ). y / down e) v.1 ∙ mul-div_cancel a (down_pos e))
  where
    flat : (a b : ℕ) → 0 + a + b ≡ a + b
    flat a b = omega arith

below_bits : (a q k : ℕ) → q < 2 ^ 24 → Leading q k → a ≡ q * 2 ^ k → bits_of a ≡ k * 2 ^ 23 + q
below_bits a q k h c e =
    let p = pow_pos k in
    ap (λ (z : ℕ). z * 2 ^ 23 + a / 2 ^ z) (leading a q k h c (le_of_eq (sym e)) (omega arith))
    ∙ ap (λ (z : ℕ). k * 2 ^ 23 + z) (ap (λ (y : ℕ). y / 2 ^ k) e ∙ shl-shr q k)

-- 2 ^ 24, one more than the largest significand, is the smallest one with the next field.
number_bits : (a q k : ℕ) → q ≤ 2 ^ 24 → Leading q k → a ≡ q * 2 ^ k → bits_of a ≡ k * 2 ^ 23 + q
number_bits a q k h c e =
    elim (eq-or-lt_of_le h) [
      | inl f ↦ below_bits a (2 ^ 23) (suc k) (omega arith) (inl (le_refl (2 ^ 23))) (smallest f) ∙ next q f
      | inr l ↦ below_bits a q k l c e
    ]
  where
    smallest : q ≡ 2 ^ 24 → a ≡ 2 ^ 23 * 2 ^ suc k
    smallest f = e ∙ rw (f, pow-suc 2 k) (omega arith)

    next : (q : ℕ) → q ≡ 2 ^ 24 → suc k * 2 ^ 23 + 2 ^ 23 ≡ k * 2 ^ 23 + q
    next q f = omega arith

-- ---- rounded
in_range : (q k : ℕ) → q ≤ 2 ^ 24 → k ≤ 149 → q * 2 ^ k < 2 ^ 277
in_range q k h l = lt_of_lt_of_le (shl_lt 25 k (more q h)) (pow_mono (room k l))
  where
    more : (q : ℕ) → q ≤ 2 ^ 24 → q < 2 ^ 25
    more q h = omega arith

    room : (k : ℕ) → k ≤ 149 → 25 + k ≤ 277
    room k l = omega arith

higher : (q k r : ℕ) → q ≤ r → Leading q k → Leading r k
higher q k r h (inl l) = inl (le_trans l h)
higher q k r h (inr e) = inr e

pub round_bits : (N D q R k : ℕ) → R < D → q < 2 ^ 24 → k ≤ 149 → Leading q k → N * 2 ^ 149 ≡ (q * D + R) * 2 ^ k
    → round binary32 false N D ≡ of_bits binary32 (k * 2 ^ 23 + nearest q (compare (R * 2) D))
round_bits N D q R k d h l c e =
    let o = compare (R * 2) D in
    let r = nearest q o in
    let x = round binary32 false N D in
    let g = grid binary32 N D in
    let u : g ≡ r * 2 ^ k = units (N * 2 ^ 149) D q R k d h c e in
    let m = le_trans (nearest-le q o) h in
    let v = round_val binary32 N D (rw u (in_range r k m l)) in
    sym (of_bits-to_bits binary32 x (round-fits binary32 false N D))
    ∙ ap (of_bits binary32) (value_bits x g v ∙ number_bits g r k m (higher q k r (nearest-ge q o) c) u)
