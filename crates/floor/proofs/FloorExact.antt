-- THE FLOOR OF A FLOAT IS A FLOAT: `of_int` does not round it. And a float with no digits below the point is its own floor. Assumes nothing.
use mathlib.Core.Path.{◌≡◌, refl, sym, ap, ◌∙◌, subst}
use mathlib.Core.Bool.{Bool, true, false, cond, ◌&&◌}
use Prim.Native.Nat.{ℕ, zero, suc, ◌+◌, ◌-◌, ◌*◌, ◌%◌, ◌^◌, ◌≤◌, ◌<◌, suc-le-suc}
use native.Mathlib.Nat.{mul-one, zero-mul, zero-div, mul_assoc, mul-pos, mul-lt-mul_of_pos_right, le_of_lt, le_of_eq, le_trans, div-one, div-le_self, div-eq_of_lt-le, pow-suc, zero-lt-suc}
use native.Mathlib.Omega.{arith}
use lib.Dec.{T, eqb, leb, ltb, ltb→lt, lit≤}
use lib.IntN.{ℤ, pos, negsuc, neg_ℤ, nat_abs}
use lib.Pow.{pow-add, pow_pos}
use lib.Ieee.{Float, nan, inf, fin, binary32, up, down, round, of_int, fits}
use lib.Ieee.Fits.{of_int-fits, and_l, and_r, down_pos}
use lib.Ieee.Exact.{HasValue, round_exact}
use lib.Ieee.Scale.{finite}
use Rattle.exact.specs.Fraction.{floor_over, floorℚ}
use Rattle.exact.specs.Value.{value}
use Rattle.floor.specs.Formula.{floor_of}
use Rattle.math.proofs.Whole.{Whole, of_int_lem, one_float}

-- ---- what `fits` says of digits m that are not 0
pub digits_lt : (s : Bool) (m : ℕ) (e : ℤ) → T (fits binary32 (fin s (suc m) e)) → suc m < 16777216
unfolding fits
digits_lt s m e t =
    let a = eqb (suc m % 2) 1 in
    let b = ltb (suc m) 16777216 in
    let c = leb (down e) (2 ^ 149) in
    let d = ltb (suc m * up e) (2 ^ 128 * down e) in
    ltb→lt (suc m) 16777216 (and_r a b (and_l (a && b) c (and_l (a && b && c) d t)))

size-lt : (s : Bool) (m : ℕ) (e : ℤ) → T (fits binary32 (fin s (suc m) e)) → suc m * up e < 2 ^ 128 * down e
unfolding fits
size-lt s m e t = ltb→lt (suc m * up e) (2 ^ 128 * down e) (and_r (eqb (suc m % 2) 1 && ltb (suc m) 16777216 && leb (down e) (2 ^ 149)) (ltb (suc m * up e) (2 ^ 128 * down e)) t)

-- ---- no digits below the point: q * 2 ^ k
module _ (s : Bool) (m k : ℕ) (f : T (fits binary32 (fin s (suc m) (pos k)))) where
  same_power : suc m * 2 ^ k * 2 ^ 149 ≡ suc m * 2 ^ (k + 149)
  same_power = mul_assoc (suc m) (2 ^ k) (2 ^ 149) ∙ ap (λ (n : ℕ). suc m * n) (sym (pow-add 2 k 149))

  power_exact : HasValue (round binary32 s (suc m * 2 ^ k) 1) s (suc m * 2 ^ k) 1
  power_exact =
      round_exact binary32 s (suc m * 2 ^ k) 1 (suc m) (k + 149) (zero-lt-suc 0) (digits_lt s m (pos k) f)
      (subst (λ (n : ℕ). n < 2 ^ 277) same_power (mul-lt-mul_of_pos_right (size-lt s m (pos k) f) (pow_pos 149)))
      (same_power ∙ sym (mul-one (suc m * 2 ^ (k + 149))))

-- ---- a size with a sign
abbrev pub signed : Bool → ℕ → ℤ
signed s n = cond s (neg_ℤ (pos n)) (pos n)

value_is : (s : Bool) (m : ℕ) (e : ℤ) → floorℚ (value (fin s m e)) ≡ floor_over (signed s (m * up e)) (down e)
unfolding value
value_is s m e = refl

signed_whole : (x : Float) (s : Bool) (n : ℕ) → 0 < n → HasValue x s n 1 → Whole x (signed s n)
signed_whole x false n h v = v
signed_whole x true zero h v = absurd (omega arith)
signed_whole x true (suc n) h v = v

signed_round : (s : Bool) (n : ℕ) → 0 < n → round binary32 s n 1 ≡ of_int binary32 (signed s n)
unfolding of_int
signed_round false n h = refl
signed_round true zero h = absurd (omega arith)
signed_round true (suc n) h = refl

over_one : (s : Bool) (n : ℕ) → floor_over (signed s n) 1 ≡ signed s n
over_one false n = ap pos (div-one n)
over_one true zero = refl
over_one true (suc n) = ap negsuc (div-one n)

over_zero : (s : Bool) (u d : ℕ) → floor_over (signed s (0 * u)) d ≡ pos 0
over_zero false u d = simp (zero-mul, zero-div)
over_zero true u d = simp (zero-mul, zero-div)

over_le : (s : Bool) (n d : ℕ) → nat_abs (floor_over (signed s n) d) ≤ n
over_le false n d = div-le_self n d
over_le true zero d = div-le_self 0 d
over_le true (suc n) d = suc-le-suc (div-le_self n d)

-- ---- each finite float
pub floor_exact : (x : Float) → T (fits binary32 x) → T (finite x) → Whole (floor_of x) (floorℚ (value x))
unfolding floor_of
floor_exact nan f h = absurd h
floor_exact (inf s) f h = absurd h
floor_exact (fin s zero e) f h = subst (λ (z : ℤ). Whole (of_int binary32 z) z) (sym (value_is s zero e ∙ over_zero s (up e) (down e))) (of_int_lem (pos 0) (lit≤ tt))
floor_exact (fin s (suc m) (negsuc k)) f h =
    of_int_lem (floorℚ (value (fin s (suc m) (negsuc k))))
    (subst (λ (z : ℤ). nat_abs z ≤ 16777216) (sym (value_is s (suc m) (negsuc k)))
    (le_trans (over_le s (suc m * 1) (2 ^ suc k)) (le_trans (le_of_eq (mul-one (suc m))) (le_of_lt (digits_lt s m (negsuc k) f)))))
floor_exact (fin s (suc m) (pos k)) f h =
    let v = suc m * 2 ^ k in
    let p : 0 < v = mul-pos (zero-lt-suc m) (pow_pos k) in
    subst (λ (z : ℤ). Whole (of_int binary32 z) z) (sym (value_is s (suc m) (pos k) ∙ over_one s v))
    (subst (λ (y : Float). Whole y (signed s v)) (signed_round s v p) (signed_whole (round binary32 s v 1) s v p (power_exact s m k f)))

pub floor_fits : (x : Float) → T (fits binary32 x) → T (fits binary32 (floor_of x))
unfolding floor_of
floor_fits nan f = f
floor_fits (inf s) f = f
floor_fits (fin s m e) f = of_int-fits binary32 (floorℚ (value (fin s m e)))

pub floor_self : (s : Bool) (m k : ℕ) → T (fits binary32 (fin s (suc m) (pos k))) → fin s (suc m) (pos k) ≡ floor_of (fin s (suc m) (pos k))
floor_self s m k f =
    let x = fin s (suc m) (pos k) in
    let v = suc m * 2 ^ k in
    one_float x (floor_of x) (floorℚ (value x)) f (floor_fits x f)
    (subst (λ (z : ℤ). Whole x z) (sym (value_is s (suc m) (pos k) ∙ over_one s v)) (signed_whole x s v (mul-pos (zero-lt-suc m) (pow_pos k)) (refl, refl)))
    (floor_exact x f tt)

-- ---- by its digits: of a zero, of a size above q and not above q + 1, and of 2 ^ 23 or more
pub floor_zero : (s : Bool) (e : ℤ) → floor_of (fin s 0 e) ≡ of_int binary32 (pos 0)
unfolding floor_of
floor_zero s e = ap (λ (z : ℤ). of_int binary32 z) (value_is s 0 e ∙ over_zero s (up e) (down e))

pub minus_over : (n d q : ℕ) → q * d < n → n ≤ suc q * d → floor_over (neg_ℤ (pos n)) d ≡ negsuc q
minus_over zero d q l h = absurd (omega arith)
minus_over (suc n) d q l h = ap negsuc (div-eq_of_lt-le d (omega arith) (omega arith))

pub floor_minus : (m : ℕ) (e : ℤ) (q : ℕ) → q * down e < m * up e → m * up e ≤ suc q * down e → floor_of (fin true m e) ≡ of_int binary32 (negsuc q)
unfolding floor_of value
floor_minus m e q l h = ap (λ (z : ℤ). of_int binary32 z) (minus_over (m * up e) (down e) q l h)

pub floor_large : (s : Bool) (m : ℕ) (e : ℤ) → T (fits binary32 (fin s m e)) → 2 ^ 23 * down e ≤ m * up e → fin s m e ≡ floor_of (fin s m e)
floor_large s zero e f h = absurd (omega (arith, down_pos e))
floor_large s (suc m) (pos k) f h = floor_self s m k f
floor_large s (suc m) (negsuc k) f h = absurd (short (suc m) (2 ^ k) (digits_lt s m (negsuc k) f) (pow_pos k) (subst (λ (p : ℕ). 8388608 * p ≤ suc m * 1) (pow-suc 2 k) h))
  where
    short : (m p : ℕ) → m < 16777216 → 0 < p → 8388608 * (p * 2) ≤ m * 1 → ⊥
    short m p h z l = omega arith
