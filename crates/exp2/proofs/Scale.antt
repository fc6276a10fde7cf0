-- 2 TO A WHOLE POWER, by the exponent's field, for each whole number z from -126 to 127; and x clamped to -126..127 has such a floor. Assumes nothing.
use mathlib.Core.Path.{◌≡◌, refl, sym, ap, ◌∙◌, subst}
use mathlib.Core.Bool.{Bool, true, false, not, cond, ◌&&◌, true≢false}
use Prim.Native.Nat.{ℕ, zero, suc, ◌*◌, ◌≤◌, ◌<◌}
use native.Mathlib.Nat.{mul-one, div-lt_iff_lt-mul}
use native.Mathlib.Omega.{arith}
use lib.Dec.{T, eqb, ltb, eqb→eq, ltb→lt, lt→ltb, le→leb}
use lib.IntN.{ℤ, pos, negsuc, neg_ℤ, nat_abs, ◌+ℤ◌}
use lib.Signed.{mag, non_neg}
use lib.Ieee.{Float, nan, inf, fin, binary32, up, down, of_int, of_bits, to_bits, nan_bits, is_nan, lt, fits, in_signed, to_signed, in_float}
use lib.Ieee.Fits.{and_l, and_r, down_pos}
use lib.Ieee.Bits.{of_bits-to_bits}
use lib.Ieee.Back.{positive_back, negative_back}
use mir.Syntax.{w32}
use mir.Val.{Fits, SFits, to_z, of_z}
use borrow.Author.Tests.{ltb-false}
use Rattle.exact.specs.Fraction.{floor_over, floorℚ}
use Rattle.exact.specs.Value.{value}
use Rattle.exact.specs.Binary32.{bits}
use Rattle.math.specs.Formulas.{clamp_of}
use Rattle.floor.specs.Formula.{floor_of}
use Rattle.exp2.specs.Formula.{exp2_scale}
use Rattle.lists.proofs.Every.{every, each}

-- ---- the field of z, as an i32 and as a u32
abbrev sum : ℤ → ℤ
sum z = to_z w32 (of_z w32 z) +ℤ pos 127

abbrev field : ℤ → ℕ
field z = nat_abs (to_z w32 (of_z w32 (sum z)))

-- z, a cast's result, stands for y
pub record Scaled (z : ℤ) (y : Float) : Type 0 where
  pub added : SFits w32 (sum z)
  pub above : T (non_neg (to_z w32 (of_z w32 (sum z))))
  pub narrow : Fits w32 (field z)
  pub shifted : Fits w32 (field z * 8388608)
  pub number : T (not (nan_bits binary32 (field z * 8388608)))
  pub is : of_bits binary32 (field z * 8388608) ≡ y

right : ℤ → Bool
right z =
    (ltb (mag (sum z)) 2147483648 && non_neg (to_z w32 (of_z w32 (sum z))))
    && (ltb (field z) 512 && not (nan_bits binary32 (field z * 8388608)))
    && (fits binary32 (fin false 1 z) && eqb (to_bits binary32 (fin false 1 z)) (field z * 8388608))

says : (z : ℤ) → T (right z) → Scaled z (fin false 1 z)
unfolding right
says z t =
    let a = ltb (mag (sum z)) 2147483648 in
    let b = non_neg (to_z w32 (of_z w32 (sum z))) in
    let c = ltb (field z) 512 in
    let d = not (nan_bits binary32 (field z * 8388608)) in
    let f = fits binary32 (fin false 1 z) in
    let g = eqb (to_bits binary32 (fin false 1 z)) (field z * 8388608) in
    let first = and_l ((a && b) && (c && d)) (f && g) t in
    let last = and_r ((a && b) && (c && d)) (f && g) t in
    let small = ltb→lt (field z) 512 (and_l c d (and_r (a && b) (c && d) first)) in
    record {
      added = record { sfits = ltb→lt (mag (sum z)) 2147483648 (and_l a b (and_l (a && b) (c && d) first)) };
      above = and_r a b (and_l (a && b) (c && d) first);
      narrow = record { fits = omega arith };
      shifted = record { fits = omega arith };
      number = and_r c d (and_r (a && b) (c && d) first);
      is = ap (λ (n : ℕ). of_bits binary32 n) (sym (eqb→eq (to_bits binary32 (fin false 1 z)) (field z * 8388608) (and_r f g last))) ∙ of_bits-to_bits binary32 (fin false 1 z) (and_l f g last);
    }

-- z from -126 to 127
abbrev Power : ℤ → Type 0
Power (pos n) = n < 128
Power (negsuc n) = n < 126

positives : T (every (λ (n : ℕ). right (pos n)) 128)
unfolding every right nan_bits fits to_bits
positives = tt

negatives : T (every (λ (n : ℕ). right (negsuc n)) 126)
unfolding every right nan_bits fits to_bits
negatives = tt

power : (z : ℤ) → Power z → Scaled z (fin false 1 z)
power (pos n) h = says (pos n) (each (λ (k : ℕ). right (pos k)) 128 n positives h)
power (negsuc n) h = says (negsuc n) (each (λ (k : ℕ). right (negsuc k)) 126 n negatives h)

-- ---- a float that holds z, as an i32
cast : (z : ℤ) → Power z → T (in_signed binary32 31 (of_int binary32 z)) × (to_signed 31 (of_int binary32 z) ≡ z)
unfolding in_float
cast (pos n) h = positive_back binary32 31 n (le→leb n 16777216 (wide n h)) (omega arith)
  where
    wide : (n : ℕ) → n < 128 → n ≤ 16777216
    wide n h = omega arith
cast (negsuc n) h = negative_back binary32 31 n (lt→ltb n 16777216 (wide n h)) (omega arith)
  where
    wide : (n : ℕ) → n < 126 → n < 16777216
    wide n h = omega arith

-- ---- x clamped to -126..127
abbrev pub least : Float
least = bits 0xc2fc_0000

abbrev pub most : Float
most = bits 0x42fe_0000

-- w, cast to an i32, stands for y
pub record Scales (w y : Float) : Type 0 where
  pub whole : T (in_signed binary32 31 w)
  pub scaled : Scaled (to_signed 31 w) y

scales : (s : Bool) (m : ℕ) (e : ℤ) → Power (floorℚ (value (fin s m e))) → Scales (floor_of (fin s m e)) (exp2_scale (fin s m e))
unfolding floor_of exp2_scale
scales s m e h =
    let z = floorℚ (value (fin s m e)) in
    let k = cast z h in
    record { whole = k.0; scaled = subst (λ (v : ℤ). Scaled v (fin false 1 z)) (sym k.1) (power z h) }

-- n / d from -126 to 127, by its size
up_to : (n d : ℕ) → 0 < d → n ≤ 127 * d → Power (floor_over (pos n) d)
up_to n d p h = (div-lt_iff_lt-mul p).1 (omega arith)

down_to : (n d : ℕ) → 0 < d → n ≤ 126 * d → Power (floor_over (neg_ℤ (pos n)) d)
down_to zero d p h = up_to 0 d p (omega arith)
down_to (suc n) d p h = (div-lt_iff_lt-mul p).1 h

within : (x : Float) → is_nan x ≡ false → lt x least ≡ false → lt most x ≡ false → Scales (floor_of x) (exp2_scale x)
unfolding lt of_bits is_nan value
within nan n l h = absurd (true≢false n)
within (inf true) n l h = absurd (true≢false l)
within (inf false) n l h = absurd (true≢false h)
within (fin false m e) n l h = scales false m e (up_to (m * up e) (down e) (down_pos e) (subst (λ (k : ℕ). k ≤ 127 * down e) (mul-one (m * up e)) (ltb-false (127 * down e) (m * up e * 1) h)))
within (fin true m e) n l h = scales true m e (down_to (m * up e) (down e) (down_pos e) (subst (λ (k : ℕ). k ≤ 126 * down e) (mul-one (m * up e)) (ltb-false (126 * down e) (m * up e * 1) l)))

at_least : Scales (floor_of least) (exp2_scale least)
unfolding lt of_bits is_nan
at_least = within least refl refl refl

at_most : Scales (floor_of most) (exp2_scale most)
unfolding lt of_bits is_nan
at_most = within most refl refl refl

pub clamped : (x : Float) → is_nan (clamp_of least most x) ≡ false → Scales (floor_of (clamp_of least most x)) (exp2_scale (clamp_of least most x))
unfolding clamp_of
clamped x n = go (lt x least) refl (lt most x) refl n
  where
    go : (t : Bool) → lt x least ≡ t → (u : Bool) → lt most x ≡ u → is_nan (cond t least (cond u most x)) ≡ false → Scales (floor_of (cond t least (cond u most x))) (exp2_scale (cond t least (cond u most x)))
    go true d u e n = at_least
    go false d true e n = at_most
    go false d false e n = within x n d e
