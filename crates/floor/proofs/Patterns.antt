-- WHAT NUMBER A BIT PATTERN STANDS FOR, by its sign, its field and its digits; and the pattern with low bits cleared. Assumes nothing.
use mathlib.Core.Path.{◌≡◌, refl, sym, ap, ◌∙◌, subst}
use mathlib.Core.Bool.{Bool, true, false, not}
use Prim.Native.Nat.{ℕ, zero, suc, ◌+◌, ◌-◌, ◌*◌, ◌/◌, ◌%◌, ◌^◌, ◌≤◌, ◌<◌}
use native.Mathlib.Nat.{mod-le, mod-lt, div-le_self, mul-one, one-mul, mul-div_cancel, le-div_iff_mul-le, le_of_eq, le_trans, add_comm, add-mul-mod_self_right, div-add-mod', lt_of_lt_of_le}
use native.Mathlib.Omega.{arith}
use lib.Dec.{T, leb}
use lib.Pow.{mod-mod-pow, pow_pos, pow-add, pow_mono, shl_lt}
use lib.Ieee.{Float, binary32, odd, of_fields, of_bits, nan_bits}
use lib.Ieee.Exact.{HasValue, odd_sign}
use lib.Ieee.Bits.{is_false, nan_bits_above}
use borrow.Author.Tests.{leb-true, leb-false, le-leb, lt-leb, ltb-false, le-ltb}
use Rattle.exact.specs.Binary32.{bits}
use Rattle.math.proofs.Bits.{fields}
use Rattle.math.proofs.Digits.{reduced}
use Rattle.floor.specs.Exponent.{cleared}

abbrev pub sign : ℕ → Bool
sign b = leb (2 ^ 31) b

abbrev pub field : ℕ → ℕ
field b = b % 2 ^ 31 / 2 ^ 23

-- the digits where the field is not 0
abbrev pub digits : ℕ → ℕ
digits b = 2 ^ 23 + b % 2 ^ 23

pub bits_is : (b : ℕ) → bits b ≡ of_fields binary32 (sign b) (field b) (b % 2 ^ 23)
unfolding of_bits
bits_is b = refl

-- ---- the value, over 2 ^ 149
tiny_value : (b : ℕ) → field b ≡ 0 → HasValue (bits b) (sign b) (b % 2 ^ 23) (2 ^ 149)
tiny_value b h =
    subst (λ (x : Float). HasValue x (sign b) (b % 2 ^ 23) (2 ^ 149)) (sym (bits_is b ∙ ap (λ (f : ℕ). of_fields binary32 (sign b) f (b % 2 ^ 23)) h ∙ tiny (sign b) (b % 2 ^ 23)))
    (subst (λ (n : ℕ). HasValue (odd 24 (sign b) (b % 2 ^ 23) 0 149) (sign b) n (2 ^ 149)) (mul-one (b % 2 ^ 23)) (odd_sign 24 (sign b) (b % 2 ^ 23) 0 149))
  where
    tiny : (s : Bool) (t : ℕ) → of_fields binary32 s 0 t ≡ odd 24 s t 0 149
    tiny s t = unfold of_fields in refl

pub normal_value : (b : ℕ) → 1 ≤ field b → field b < 255 → HasValue (bits b) (sign b) (digits b * 2 ^ (field b - 1)) (2 ^ 149)
normal_value b h l =
    subst (λ (x : Float). HasValue x (sign b) (digits b * 2 ^ (field b - 1)) (2 ^ 149)) (sym (bits_is b ∙ fields (sign b) (field b) (b % 2 ^ 23) h l))
    (odd_sign 24 (sign b) (digits b) (field b - 1) 149)

-- at a field below 127 it is less than 1
pub small_value : (b : ℕ) → field b < 127 → (a : ℕ) × HasValue (bits b) (sign b) a (2 ^ 149) × (a < 2 ^ 149)
small_value b h = go (field b) refl
  where
    go : (f : ℕ) → field b ≡ f → (a : ℕ) × HasValue (bits b) (sign b) a (2 ^ 149) × (a < 2 ^ 149)
    go zero e = (b % 2 ^ 23, tiny_value b e, lt_of_lt_of_le below (pow_mono wide))
      where
        below : b % 2 ^ 23 < 2 ^ 23
        below = omega arith

        wide : 23 ≤ 149
        wide = omega arith
    go (suc n) e =
        let u : digits b < 2 ^ 24 = omega arith in
        let k : 24 + (field b - 1) ≤ 149 = omega arith in
        (digits b * 2 ^ (field b - 1), normal_value b (omega arith) (omega arith), lt_of_lt_of_le (shl_lt 24 (field b - 1) u) (pow_mono k))

-- at a field of 127 to 149, k bits short of 150: its digits over 2 ^ k
pub cut_value : (b k : ℕ) → 0 < k → k ≤ 23 → field b + k ≡ 150 → HasValue (bits b) (sign b) (digits b) (2 ^ k)
cut_value b k h l e =
    let n = field b - 1 in
    let sum : 149 ≡ k + n = omega arith in
    reduced (bits b) (sign b) (digits b) (2 ^ k) (2 ^ n) (pow_pos n)
    (subst (λ (c : ℕ). HasValue (bits b) (sign b) (digits b * 2 ^ n) c) (ap (λ (x : ℕ). 2 ^ x) sum ∙ pow-add 2 k n) (normal_value b (omega arith) (omega arith)))

-- ---- the k lowest bits
low_le : (b k j : ℕ) → k ≤ j → b % 2 ^ k ≤ b % 2 ^ j
low_le b k j h =
    let back : j - k + k ≡ j = omega arith in
    subst (λ (n : ℕ). n ≤ b % 2 ^ j) (mod-mod-pow b (j - k) k) (subst (λ (n : ℕ). b % 2 ^ n % 2 ^ k ≤ b % 2 ^ j) (sym back) (mod-le (b % 2 ^ j) (2 ^ k)))

-- from 0 to 23 of them are those of the digits
pub low_digits : (b k : ℕ) → k ≤ 23 → digits b % 2 ^ k ≡ b % 2 ^ k
low_digits b k h =
    let back : 23 - k + k ≡ 23 = omega arith in
    ap (λ (n : ℕ). (n + b % 2 ^ 23) % 2 ^ k) (ap (λ (n : ℕ). 2 ^ n) (sym back) ∙ pow-add 2 (23 - k) k)
    ∙ ap (λ (n : ℕ). n % 2 ^ k) (add_comm (2 ^ (23 - k) * 2 ^ k) (b % 2 ^ 23))
    ∙ add-mul-mod_self_right (b % 2 ^ 23) (2 ^ (23 - k)) (2 ^ k)
    ∙ ap (λ (n : ℕ). b % 2 ^ n % 2 ^ k) (sym back)
    ∙ mod-mod-pow b (23 - k) k

-- ---- and cleared: r is what they come to
module _ (b r : ℕ) (h : r ≤ b % 2 ^ 23) where
  same_field : field (b - r) ≡ field b
  same_field = omega arith

  less_digits : digits (b - r) ≡ digits b - r
  less_digits = omega arith

  same_sign : sign (b - r) ≡ sign b
  same_sign = go (sign b) refl
    where
      still : 2 ^ 31 ≤ b → 2 ^ 31 ≤ b - r
      still k = omega arith

      go : (t : Bool) → sign b ≡ t → sign (b - r) ≡ t
      go true e = le-leb (2 ^ 31) (b - r) (still (leb-true (2 ^ 31) b e))
      go false e = lt-leb (2 ^ 31) (b - r) (omega (arith, leb-false (2 ^ 31) b e))

-- the whole number that the other digits are
pub cleared_value : (b k : ℕ) → 0 < k → k ≤ 23 → field b + k ≡ 150 → HasValue (bits (cleared k b)) (sign b) (digits b / 2 ^ k) 1
cleared_value b k p h f =
    let r = b % 2 ^ k in
    let l = low_le b k 23 h in
    let q = digits b / 2 ^ k in
    let y = bits (b - r) in
    let v = cut_value (b - r) k p h (ap (λ (n : ℕ). n + k) (same_field b r l) ∙ f) in
    let w = subst (λ (s : Bool). HasValue y s (digits (b - r)) (2 ^ k)) (same_sign b r l) v in
    reduced y (sign b) q 1 (2 ^ k) (pow_pos k)
    (subst (λ (n : ℕ). HasValue y (sign b) (q * 2 ^ k) n) (sym (one-mul (2 ^ k)))
    (subst (λ (n : ℕ). HasValue y (sign b) n (2 ^ k)) (less_digits b r l ∙ taken (digits b) r q (2 ^ k) (ap (λ (n : ℕ). q * 2 ^ k + n) (sym (low_digits b k h)) ∙ div-add-mod' (digits b) (2 ^ k))) w))
  where
    taken : (m r q p : ℕ) → q * p + r ≡ m → m - r ≡ q * p
    taken m r q p h = omega arith

-- ---- what a one weighs in a pattern, as the code has it: 2 ^ 23 shifted by the exponent k
pub weight_is : (k : ℕ) → k ≤ 23 → 2 ^ 23 / 2 ^ k ≡ 2 ^ (23 - k)
weight_is k h =
    let back : 23 ≡ 23 - k + k = omega arith in
    ap (λ (n : ℕ). n / 2 ^ k) (ap (λ (n : ℕ). 2 ^ n) back ∙ pow-add 2 (23 - k) k) ∙ mul-div_cancel (2 ^ (23 - k)) (pow_pos k)

pub weight_pos : (w k : ℕ) → 2 ^ 23 ≤ w → k ≤ 23 → 0 < w / 2 ^ k
weight_pos w k l h = (le-div_iff_mul-le (pow_pos k)).1 (le_trans (le_of_eq (one-mul (2 ^ k))) (le_trans (pow_mono h) l))

-- no NaN comes of taking something off below the sign
still_number : (b r : ℕ) → r ≤ b % 2 ^ 31 → T (not (nan_bits binary32 b)) → T (not (nan_bits binary32 (b - r)))
still_number b r h t =
    let u = ltb-false 0x7f80_0000 (b % 2 ^ 31) (sym (nan_bits_above binary32 b) ∙ is_false (nan_bits binary32 b) t) in
    subst (λ (n : Bool). T (not n)) (sym (nan_bits_above binary32 (b - r) ∙ le-ltb 0x7f80_0000 ((b - r) % 2 ^ 31) (below u))) tt
  where
    below : b % 2 ^ 31 ≤ 0x7f80_0000 → (b - r) % 2 ^ 31 ≤ 0x7f80_0000
    below u = omega arith

pub weight_number : (b w k : ℕ) → w ≤ 2 ^ 24 → 0 < w / 2 ^ k → 127 ≤ field b → T (not (nan_bits binary32 b)) → T (not (nan_bits binary32 (b - b % (w / 2 ^ k))))
weight_number b w k h p f = still_number b (b % (w / 2 ^ k)) (small (b % (w / 2 ^ k)) (w / 2 ^ k) (mod-lt b p) (div-le_self w (2 ^ k)))
  where
    small : (r v : ℕ) → r < v → v ≤ w → r ≤ b % 2 ^ 31
    small r v l u = omega arith
