-- THE FLOOR OF A PATTERN AS A WHOLE NUMBER, and its text: at an exponent below 0,
-- and where k bits of the fraction stand below the point. Assumes nothing.
use mathlib.Core.Path.{◌≡◌, refl, sym, ap, ◌∙◌, subst}
use mathlib.Core.Bool.{Bool, true, false, cond, false≢true, true≢false}
use mathlib.Core.List.{◌++◌}
use Prim.Native.Nat.{ℕ, zero, suc, ◌+◌, ◌*◌, ◌/◌, ◌%◌, ◌^◌, ◌≤◌, ◌<◌}
use native.Mathlib.Nat.{mod-lt, div-add-mod', div-le_self, le_trans}
use native.Mathlib.Numerals.{add-one}
use native.Mathlib.Omega.{arith}
use lib.Dec.{T}
use lib.IntN.{ℤ, pos, negsuc}
use lib.Pow.{pow_pos, pow_mono}
use lib.Ieee.{Float, nan, inf, fin, binary32, of_bits, neg, lt, fits}
use lib.Ieee.Exact.{HasValue}
use lib.Ieee.Bits.{of_bits-fits}
use borrow.Author.Tests.{lt-leb, le-leb}
use Rattle.exact.specs.Fraction.{floorℚ}
use Rattle.exact.specs.Value.{value}
use Rattle.exact.specs.Binary32.{bits, zero₃₂, one₃₂}
use Rattle.math.proofs.Whole.{Whole}
use Rattle.floor.specs.Formula.{floor_of}
use Rattle.floor.proofs.FloorExact.{floor_exact}
use Rattle.floor.proofs.Patterns.{sign, field, digits, small_value, cut_value, low_digits}
use Rattle.floor.proofs.ByExponent.{whole_of, whole_of_minus, by_field_small}
use Rattle.text.specs.Text.{ascii}
use Rattle.bit_fields.proofs.Bits.{shifted, shifted_is}
use Rattle.numerals.specs.Spelled.{glyph_of, digits_of, places_from, decimal_of}
use Rattle.floor_number.specs.Number.{whole_text}

-- ---- an exponent below 0: the number that -1 holds, or +0
minus_one : (z : ℤ) → Whole (neg one₃₂) z → z ≡ negsuc 0
unfolding neg of_bits
minus_one (pos n) w = absurd (true≢false w.0)
minus_one (negsuc n) w = ap negsuc (omega (arith, w.1))

nothing : (z : ℤ) → Whole zero₃₂ z → z ≡ pos 0
unfolding of_bits
nothing (negsuc n) w = absurd (false≢true w.0)
nothing (pos n) w = ap pos (omega (arith, w.1))

held : (x : Float) (s : Bool) (a c : ℕ) → T (fits binary32 x) → HasValue x s a c
    → Whole (floor_of x) (floorℚ (value x))
held nan s a c f v = absurd v
held (inf t) s a c f v = absurd v
held (fin t m e) s a c f v = floor_exact (fin t m e) f tt

small_whole : (b : ℕ) → field b < 127 → (t : Bool) → lt (bits b) zero₃₂ ≡ t
    → Whole (cond t (neg one₃₂) zero₃₂) (floorℚ (value (bits b)))
small_whole b h t e =
    let w = small_value b h in
    subst (λ (y : Float). Whole y (floorℚ (value (bits b))))
    (by_field_small b h ∙ ap (λ (n : Bool). cond n (neg one₃₂) zero₃₂) e)
    (held (bits b) (sign b) w.0 (2 ^ 149) (of_bits-fits binary32 b) w.1)

pub small_minus : (b : ℕ) → field b < 127 → lt (bits b) zero₃₂ ≡ true
    → ascii "-1" ≡ whole_text (floorℚ (value (bits b)))
unfolding whole_text decimal_of digits_of places_from glyph_of
small_minus b h e = sym (ap whole_text (minus_one (floorℚ (value (bits b))) (small_whole b h true e)))

pub small_nothing : (b : ℕ) → field b < 127 → lt (bits b) zero₃₂ ≡ false
    → ascii "0" ≡ whole_text (floorℚ (value (bits b)))
unfolding whole_text decimal_of digits_of places_from glyph_of
small_nothing b h e = sym (ap whole_text (nothing (floorℚ (value (bits b))) (small_whole b h false e)))

-- ---- k bits below the point: the others are a number below 2 ^ 24
size_small : (b d : ℕ) → (8388608 + b % 8388608) / d ≤ 16777215
size_small b d = le_trans (div-le_self (8388608 + b % 8388608) d) (omega arith)

-- and fits 64 bits, with one more too
pub size_fits : (b d : ℕ) → (8388608 + b % 8388608) / d < 2 ^ 64
size_fits b d = omega (arith, size_small b d)

pub more_fits : (b d : ℕ) → (8388608 + b % 8388608) / d + 1 < 2 ^ 64
more_fits b d = omega (arith, size_small b d)

module _ (b k : ℕ) (p : 0 < k) (h : k ≤ 23) (f : field b + k ≡ 150) where
  abbrev quotient : ℕ
  quotient = digits b / 2 ^ k

  power : shifted k ≡ 2 ^ k
  power = shifted_is k (omega arith)

  parts : quotient * 2 ^ k + b % 2 ^ k ≡ digits b
  parts = ap (λ (n : ℕ). quotient * 2 ^ k + n) (sym (low_digits b k h)) ∙ div-add-mod' (digits b) (2 ^ k)

  some : 2 ^ k ≤ digits b
  some = le_trans (pow_mono h) (omega arith)

  -- the value, by its sign
  valued : (t : Bool) → sign b ≡ t → HasValue (bits b) t (digits b) (2 ^ k)
  valued t s = subst (λ (t : Bool). HasValue (bits b) t (digits b) (2 ^ k)) s (cut_value b k p h f)

  minus : 2 ^ 31 ≤ b → (q : ℕ) → q * 2 ^ k < digits b → digits b ≤ suc q * 2 ^ k
      → floorℚ (value (bits b)) ≡ negsuc q
  minus s q l u = whole_of_minus (bits b) (digits b) (2 ^ k) q (pow_pos k) (valued true (le-leb (2 ^ 31) b s)) l u

  -- not below 0
  pub plus_text : b < 2 ^ 31 → decimal_of (digits b / shifted k) ≡ whole_text (floorℚ (value (bits b)))
  unfolding whole_text
  plus_text s =
      let v = whole_of (bits b) (digits b) (2 ^ k) (pow_pos k) (valued false (lt-leb (2 ^ 31) b s)) in
      ap (λ (n : ℕ). decimal_of (digits b / n)) power ∙ sym (ap whole_text v)

  -- below 0, and none of the bits is set
  pub minus_text : 2 ^ 31 ≤ b → b % shifted k ≡ 0
      → ascii "-" ++ decimal_of (digits b / shifted k) ≡ whole_text (floorℚ (value (bits b)))
  unfolding whole_text
  minus_text s z =
      ap (λ (n : ℕ). ascii "-" ++ decimal_of (digits b / n)) power
      ∙ go quotient refl parts (subst (λ (n : ℕ). b % n ≡ 0) power z)
    where
      go : (q : ℕ) → quotient ≡ q → q * 2 ^ k + b % 2 ^ k ≡ digits b → b % 2 ^ k ≡ 0
          → ascii "-" ++ decimal_of quotient ≡ whole_text (floorℚ (value (bits b)))
      go zero e g z = absurd (omega (arith, some, pow_pos k))
      go (suc q) e g z =
          let l : q * 2 ^ k < digits b = omega (arith, pow_pos k) in
          let u : digits b ≤ suc q * 2 ^ k = omega arith in
          ap (λ (n : ℕ). ascii "-" ++ decimal_of n) e ∙ sym (ap whole_text (minus s q l u))

  -- below 0, and one of them is
  pub down_text : 2 ^ 31 ≤ b → 0 < b % shifted k
      → ascii "-" ++ decimal_of (digits b / shifted k + 1) ≡ whole_text (floorℚ (value (bits b)))
  unfolding whole_text
  down_text s z =
      let r : 0 < b % 2 ^ k = subst (λ (n : ℕ). 0 < b % n) power z in
      let l : quotient * 2 ^ k < digits b = omega (arith, parts) in
      let u : digits b ≤ suc quotient * 2 ^ k = omega (arith, parts, mod-lt b (pow_pos k)) in
      ap (λ (n : ℕ). ascii "-" ++ decimal_of (digits b / n + 1)) power
      ∙ ap (λ (n : ℕ). ascii "-" ++ decimal_of n) (add-one quotient)
      ∙ sym (ap whole_text (minus s quotient l u))
