-- A FLOAT BY ITS BITS: a pattern b with a field from 1 to 254 and no sign is the significand 2 ^ 23 + b % 2 ^ 23 in units of 2 ^ (b / 2 ^ 23 - 150); and between which patterns a float lies.
-- Assumes nothing.
use mathlib.Core.Path.{◌≡◌, sym, ap, subst, ◌∙◌}
use mathlib.Core.Bool.{Bool, true, false, cond}
use Prim.Native.Nat.{ℕ, zero, suc, ◌+◌, ◌-◌, ◌*◌, ◌/◌, ◌%◌, ◌^◌, ◌≤◌, ◌<◌}
use native.Mathlib.Nat.{lt_of_lt_of_le, lt_of_le_of_lt, lt_of_not-le, not-le_of_lt, mul-pos, mod-eq_of_lt, mul-div_cancel, le-div_iff_mul-le}
use native.Mathlib.Omega.{arith}
use lib.Dec.{T, leb, eqb, leb→le, eqb→eq, not_T}
use lib.Pow.{pow_pos, pow-add, pow_mono}
use lib.Ieee.{Float, nan, inf, fin, binary32, up, down, size, odd, of_fields, of_bits, to_bits, fits}
use lib.Ieee.Digits.{size-lt, size-le, size_reaches}
use lib.Ieee.Exact.{odd_sign}
use lib.Ieee.Fits.{down_pos, kept-lt}
use lib.Ieee.Bits.{is_false, cond_no, of_bits-to_bits}
use Rattle.rounding.proofs.Operations.{Quanta, of_value}

-- ---- a pattern with a field from 1 to 254
pub fields : (s : Bool) (F t : ℕ) → 1 ≤ F → F < 255 → of_fields binary32 s F t ≡ odd 24 s (2 ^ 23 + t) (F - 1) 149
unfolding of_fields
fields s zero t h k = absurd (none h)
  where
    none : 1 ≤ 0 → ⊥
    none h = omega arith
fields s (suc x) t h k =
    cond_no (eqb (suc x) 255) (cond (eqb t 0) (inf s) nan) (odd 24 s (2 ^ 23 + t) x 149) (not_T (eqb (suc x) 255) (λ (e : T (eqb (suc x) 255)). none (suc x) (eqb→eq (suc x) 255 e) k))
    ∙ ap (λ (z : ℕ). odd 24 s (2 ^ 23 + t) z 149) (back x)
  where
    back : (x : ℕ) → x ≡ suc x - 1
    back x = omega arith

    none : (y : ℕ) → y ≡ 255 → y < 255 → ⊥
    none y e h = omega arith

-- and no sign
pub bits_are : (b : ℕ) → 2 ^ 23 ≤ b → b < 255 * 2 ^ 23 → of_bits binary32 b ≡ odd 24 false (2 ^ 23 + b % 2 ^ 23) (b / 2 ^ 23 - 1) 149
unfolding of_bits
bits_are b l h =
    ap (λ (s : Bool). of_fields binary32 s (b % 2 ^ 31 / 2 ^ 23) (b % 2 ^ 23)) (is_false (leb (2 ^ 31) b) (not_T (leb (2 ^ 31) b) (λ (e : T (leb (2 ^ 31) b)). none b (leb→le (2 ^ 31) b e) h)))
    ∙ ap (λ (z : ℕ). of_fields binary32 false (z / 2 ^ 23) (b % 2 ^ 23)) (mod-eq_of_lt (small b h)) ∙ fields false (b / 2 ^ 23) (b % 2 ^ 23) (above b l) (under b h)
  where
    none : (b : ℕ) → 2 ^ 31 ≤ b → b < 255 * 2 ^ 23 → ⊥
    none b h k = omega arith

    small : (b : ℕ) → b < 255 * 2 ^ 23 → b < 2 ^ 31
    small b h = omega arith

    above : (b : ℕ) → 2 ^ 23 ≤ b → 1 ≤ b / 2 ^ 23
    above b h = omega arith

    under : (b : ℕ) → b < 255 * 2 ^ 23 → b / 2 ^ 23 < 255
    under b h = omega arith

-- its quanta
pub odd_quanta : (q k : ℕ) → Quanta (2 ^ 149) (odd 24 false q k 149) (q * 2 ^ k) 0
odd_quanta q k = of_value (odd 24 false q k 149) false (q * 2 ^ k) (2 ^ 149) (odd_sign 24 false q k 149)

pub bits_quanta : (x : Float) → T (fits binary32 x) → 2 ^ 23 ≤ to_bits binary32 x → to_bits binary32 x < 255 * 2 ^ 23 →
    Quanta (2 ^ 149) x ((2 ^ 23 + to_bits binary32 x % 2 ^ 23) * 2 ^ (to_bits binary32 x / 2 ^ 23 - 1)) 0
bits_quanta x f l h =
    let b = to_bits binary32 x in
    let q = 2 ^ 23 + b % 2 ^ 23 in
    let k = b / 2 ^ 23 - 1 in
    subst (λ (z : Float). Quanta (2 ^ 149) z (q * 2 ^ k) 0) (sym (bits_are b l h) ∙ of_bits-to_bits binary32 x f) (odd_quanta q k)

-- ---- the bits of a float of g quanta, from 2 ^ i to below 2 ^ j of them
pub pow_less : (i j : ℕ) → 2 ^ i < 2 ^ j → i < j
pow_less i j h = lt_of_not-le (λ (g : j ≤ i). not-le_of_lt h (pow_mono g))

pub record Between (i j b : ℕ) : Type 0 where
  pub low : (i - 22) * 2 ^ 23 ≤ b
  pub high : b < (j - 22) * 2 ^ 23

module _ (i j : ℕ) (s : 23 ≤ i) where
  ranged : (g : ℕ) → 2 ^ i ≤ g → g < 2 ^ j → Between i j (0 + (size g - 24) * 2 ^ 23 + g / 2 ^ (size g - 24))
  ranged g l h =
      let z = size g in
      let a : i < z = pow_less i z (lt_of_le_of_lt l (size-lt g)) in
      let b : z ≤ j = size-le g j h in
      let k = z - 24 in
      let p : 2 ^ 23 * 2 ^ k ≤ g = subst (λ (y : ℕ). y ≤ g) (ap (λ (y : ℕ). 2 ^ y) (parts z a) ∙ pow-add 2 23 k) (size_reaches g (z - 1) (last z a)) in
      let u : 2 ^ 23 ≤ g / 2 ^ k = (le-div_iff_mul-le (pow_pos k)).1 p in
      record { low = lower z (g / 2 ^ k) a u; high = upper z (g / 2 ^ k) a b (kept-lt 24 g) }
    where
      parts : (z : ℕ) → i < z → z - 1 ≡ 23 + (z - 24)
      parts z h = omega arith

      last : (z : ℕ) → i < z → z - 1 < z
      last z h = omega arith

      lower : (z q : ℕ) → i < z → 2 ^ 23 ≤ q → (i - 22) * 2 ^ 23 ≤ 0 + (z - 24) * 2 ^ 23 + q
      lower z q h k = omega arith

      upper : (z q : ℕ) → i < z → z ≤ j → q < 2 ^ 24 → 0 + (z - 24) * 2 ^ 23 + q < (j - 22) * 2 ^ 23
      upper z q h l k = omega arith

  pub bits_between : (x : Float) (g : ℕ) → Quanta (2 ^ 149) x g 0 → 2 ^ i ≤ g → g < 2 ^ j → Between i j (to_bits binary32 x)
  unfolding to_bits
  bits_between nan g h l u = absurd h
  bits_between (inf s) g h l u = absurd h
  bits_between (fin true m e) g h l u = absurd (none (m * up e * 2 ^ 149) (g * down e) (down e) (mul-pos (lt_of_lt_of_le (pow_pos i) l) (down_pos e)) h)
    where
      none : (x y c : ℕ) → 0 < y → x + y ≡ 0 * c → ⊥
      none x y c h k = omega arith
  bits_between (fin false m e) g h l u = subst (λ (y : ℕ). Between i j (0 + (size y - 24) * 2 ^ 23 + y / 2 ^ (size y - 24))) (sym same) (ranged g l u)
    where
      flat : (x y c : ℕ) → x + 0 * c ≡ y → x ≡ y
      flat x y c h = omega arith

      same : m * up e * 2 ^ 149 / down e ≡ g
      same = ap (λ (y : ℕ). y / down e) (flat (m * up e * 2 ^ 149) (g * down e) (down e) h) ∙ mul-div_cancel g (down_pos e)
