-- exp2 IN BINARY32, through order 8, LIES WITHIN 11 * 2 ^ -24 OF THE EXACT 2 ^ s, through order 20, RELATIVELY, for every s from -25 to 25. In three stages: what s
-- has above its floor z, its series, and the power of two. The first and the last are tested for every z by one computation each. Assumes nothing.
use mathlib.Core.Path.{◌≡◌, refl, subst, subst₂, ap}
use mathlib.Core.Bool.{Bool, true, false, cond}
use Prim.Native.Nat.{ℕ, suc, ◌+◌, ◌*◌, ◌^◌, ◌<◌, ◌≤◌}
use native.Mathlib.Nat.{le_of_mul-le-mul_right, lt_of_mul-lt-mul_right, mul-pos}
use native.Mathlib.Omega.{arith}
use lib.IntN.{ℤ, pos, negsuc, ◌+ℤ◌, ◌*ℤ◌}
use lib.Dec.{T, lit≤}
use lib.Pow.{pow_pos}
use lib.Ieee.{Float, nan, inf, fin, binary32, up, down, of_int, of_bits, fits, lt}
use lib.Ieee.Fits.{down_pos}
use lib.Ieee.Scale.{finite}
use Rattle.exact.specs.Fraction.{Fraction, Defined, ratio, whole, power_of_two, floorℚ, absℚ, ltℚ, ◌+ℚ◌, ◌-ℚ◌, ◌*ℚ◌, ◌≤ℚ◌}
use Rattle.exact.specs.Value.{value, Within, RelativelyWithin}
use Rattle.exact.specs.Binary32.{◌⊖◌, ◌⊗◌, bits}
use Rattle.exact.proofs.Parts.{part⁺, part⁻, num⁺, num⁻, sum_parts}
use Rattle.exact.proofs.Order.{≤ℚ-parts, parts-≤ℚ, ltℚ_parts, ≤ℚ-trans, equal_refl, lt_value, within_loosen}
use Rattle.exact.proofs.Defined.{value_defined}
use Rattle.exact.proofs.Floor.{floor_below, floor_above}
use Rattle.exact.proofs.Inequality.{scale_le, grows, le_abs, lt_le}
use Rattle.rounding.proofs.Bounds.{lower_whole, upper_next}
use Rattle.rounding.proofs.Analyser.{Bound, Expr, var, approx, minus, times, Approximates, analyse, plain, certified, eval_float, eval_exact}
use Rattle.rounding.proofs.Soundness.{plainly}
use Rattle.rounding.proofs.Inputs.{one, one_input, exact_input, covers, concludes, concluded, bounded}
use Rattle.series.specs.Horner.{horner, hornerℚ}
use Rattle.math.specs.Formulas.{clamp_of}
use Rattle.floor.specs.Formula.{floor_of, fract_of}
use Rattle.exp2.specs.Formula.{exp2_scale, exp2_coefficients, exp2_within, exp2_of}
use Rattle.series.specs.Terms.{terms, factorial}
use Rattle.exp2.specs.Exact.{exp2_term, exp2_terms, exp2ℚ}
use Rattle.series.proofs.SeriesExpr.{polynomial, exactly, nearest_to}
use Rattle.lists.proofs.Every.{every}
use Rattle.exp2.proofs.Every.{every_whole, each_whole}

-- ---- THE THREE STAGES
-- s between its floor and the next whole number
between : ℤ → Bound
between z = record { lo = z *ℤ pos (2 ^ 149); hi = (z +ℤ pos 1) *ℤ pos (2 ^ 149); err = 0 }

part : ℤ → Expr
part z = minus (var 0) (approx (of_int binary32 z) (whole z))

-- from 0 to 1, off by at most 2 ^ -25
part_bound : Bound
part_bound = record { lo = pos 0; hi = pos (2 ^ 149); err = 2 ^ 124 }

part_test : ℤ → Bool
part_test z = concludes binary32 (one (between z)) (part z) part_bound

part_ok : T (every_whole part_test 25)
unfolding every_whole every part_test concludes analyse covers between part part_bound one of_int
part_ok = tt

series : Expr
unfolding polynomial exp2_coefficients exp2_terms
series = polynomial exp2_coefficients exp2_terms (var 0)

-- from 1 to 2, off by at most 8.2 * 2 ^ -24
series_bound : Bound
series_bound = record { lo = pos (2 ^ 149); hi = pos (2 ^ 150 + 2 ^ 126); err = 1037 * 2 ^ 118 }

series_ok : T (concludes binary32 (one part_bound) series series_bound)
unfolding concludes analyse covers part_bound series series_bound polynomial exactly nearest_to exp2_coefficients exp2_terms terms exp2_term factorial one of_bits
series_ok = tt

series_plain : T (plain series)
unfolding plain series polynomial exactly exp2_coefficients exp2_terms terms
series_plain = tt

scaled : ℤ → Expr
scaled z = times (var 0) (approx (fin false 1 z) (power_of_two z))

-- off by at most 11 * 2 ^ -24 of 2 ^ z
scaled_test : ℤ → Bool
scaled_test z = certified binary32 (one series_bound) (scaled z) (11 * up z) (2 ^ 24 * down z)

scaled_ok : T (every_whole scaled_test 25)
unfolding every_whole every scaled_test certified analyse scaled series_bound one
scaled_ok = tt

-- from 0 to 2 ^ 26 + 16
unfoldable pub power_bound : Bound
power_bound = record { lo = pos 0; hi = pos (2 ^ 175 + 2 ^ 153); err = 2 ^ 154 }

range_test : ℤ → Bool
range_test z = concludes binary32 (one series_bound) (scaled z) power_bound

range_ok : T (every_whole range_test 25)
unfolding every_whole every range_test concludes analyse covers scaled series_bound power_bound one
range_ok = tt

-- ---- what the expressions' evaluations are
series_runs : (p : Float) → eval_float binary32 (one p) series ≡ horner exp2_coefficients p
unfolding eval_float series polynomial exactly one horner exp2_coefficients exp2_terms terms
series_runs p = refl

series_means : (P : Fraction) → eval_exact (one P) series ≡ hornerℚ exp2_terms P
unfolding eval_exact series polynomial exactly one hornerℚ exp2_coefficients exp2_terms terms
series_means P = refl

-- ---- 2 ^ s FOR AN s WHOSE FLOOR IS z
record Power (x : Float) (A : Fraction) (z : ℤ) : Type 0 where
  near : Within (value (horner exp2_coefficients (x ⊖ of_int binary32 z) ⊗ fin false 1 z)) (hornerℚ exp2_terms (A -ℚ whole z) *ℚ power_of_two z) (ratio 11 (2 ^ 24) *ℚ power_of_two z)
  least : power_of_two z ≤ℚ hornerℚ exp2_terms (A -ℚ whole z) *ℚ power_of_two z
  range : Approximates binary32 (horner exp2_coefficients (x ⊖ of_int binary32 z) ⊗ fin false 1 z) (hornerℚ exp2_terms (A -ℚ whole z) *ℚ power_of_two z) power_bound

power : (x : Float) (z : ℤ) → T (fits binary32 x) → T (finite x) → whole z ≤ℚ value x → value x ≤ℚ whole z +ℚ whole (pos 1) → part⁺ z ≤ 25 → part⁻ z ≤ 25 → Power x (value x) z
unfolding part_test scaled_test range_test between part scaled series_bound eval_float eval_exact one plain hornerℚ
power x z f t l h i j =
    let A = value x in
    let b = between z in
    let U = 2 ^ 149 in
    let in₁ = exact_input binary32 x A (z *ℤ pos U) ((z +ℤ pos 1) *ℤ pos U) f (equal_refl ((value_defined x).1 t)) (lower_whole U A z l) (upper_next U A z h) in
    let p = x ⊖ of_int binary32 z in
    let P = A -ℚ whole z in
    let in₂ : Approximates binary32 p P part_bound = concluded binary32 (one x) (one A) (one b) (one_input binary32 x A b in₁) (part z) (plainly binary32 (one A) (part z) tt) part_bound (each_whole part_test 25 z part_ok i j) in
    let q = horner exp2_coefficients p in
    let Q = hornerℚ exp2_terms P in
    let in₃ : Approximates binary32 q Q series_bound = subst₂ (λ (y : Float) (B : Fraction). Approximates binary32 y B series_bound) (series_runs p) (series_means P)
    (concluded binary32 (one p) (one P) (one part_bound) (one_input binary32 p P part_bound in₂) series (plainly binary32 (one P) series series_plain) series_bound series_ok) in
    record {
      near = scaled_near q Q in₃;
      least = grows Q (up z) (down z) (from_one Q in₃.lower);
      range = ranged q Q in₃;
    }
  where
    from_one : (Q : Fraction) → 2 ^ 149 * Q.den + num⁻ Q * 2 ^ 149 ≤ num⁺ Q * 2 ^ 149 + 0 * Q.den → ratio 1 1 ≤ℚ Q
    from_one Q h = parts-≤ℚ (ratio 1 1) Q (le_of_mul-le-mul_right (core (num⁺ Q) (num⁻ Q) Q.den (2 ^ 149) h) (pow_pos 149))
      where
        core : (P N D U : ℕ) → U * D + N * U ≤ P * U + 0 * D → (1 * D + N * 1) * U ≤ (P * 1 + 0 * D) * U
        core P N D U h = omega arith

    scaled_near : (q : Float) (Q : Fraction) → Approximates binary32 q Q series_bound → Within (value (q ⊗ fin false 1 z)) (Q *ℚ power_of_two z) (ratio 11 (2 ^ 24) *ℚ power_of_two z)
    scaled_near q Q k =
        bounded binary32 (one q) (one Q) (one series_bound) (one_input binary32 q Q series_bound k) (scaled z) (plainly binary32 (one Q) (scaled z) tt) (11 * up z) (2 ^ 24 * down z) (mul-pos (pow_pos 24) (down_pos z)) (each_whole scaled_test 25 z scaled_ok i j)

    ranged : (q : Float) (Q : Fraction) → Approximates binary32 q Q series_bound → Approximates binary32 (q ⊗ fin false 1 z) (Q *ℚ power_of_two z) power_bound
    ranged q Q k =
        concluded binary32 (one q) (one Q) (one series_bound) (one_input binary32 q Q series_bound k) (scaled z) (plainly binary32 (one Q) (scaled z) tt) power_bound (each_whole range_test 25 z range_ok i j)

-- ---- the floor of an s from -25 to 25
floor_range : (a : Fraction) (z : ℤ) → Defined a → whole (negsuc 24) ≤ℚ a → a ≤ℚ whole (pos 25) → whole z ≤ℚ a → T (ltℚ a (whole z +ℚ whole (pos 1))) → (part⁺ z ≤ 25) × (part⁻ z ≤ 25)
floor_range a z d lo hi l k = go z (≤ℚ-parts (whole z) (whole (pos 25)) (≤ℚ-trans (whole z) a (whole (pos 25)) d l hi)) (ltℚ_parts a (whole z +ℚ whole (pos 1)) k) (sum_parts (whole z) (whole (pos 1)))
  where
    most : (n : ℕ) → n * 1 + 0 * 1 ≤ 25 * 1 + 0 * 1 → (n ≤ 25) × (0 ≤ 25)
    most n h = (omega arith, omega arith)

    least : (P N D S R n : ℕ) → 0 * D + N * 1 ≤ P * 1 + 25 * D → P * (1 * 1) + R * D < S * D + N * (1 * 1) → S + (suc n * 1 + 0 * 1) ≡ R + (0 * 1 + 1 * 1) → n < 25
    least P N D S R n i h e = lt_of_mul-lt-mul_right D (omega (arith, ap (λ (x : ℕ). x * D) e))

    go : (z : ℤ) → part⁺ z * 1 + 0 * 1 ≤ 25 * 1 + part⁻ z * 1 → num⁺ a * (1 * 1) + num⁻ (whole z +ℚ whole (pos 1)) * a.den < num⁺ (whole z +ℚ whole (pos 1)) * a.den + num⁻ a * (1 * 1)
        → num⁺ (whole z +ℚ whole (pos 1)) + (part⁻ z * 1 + 0 * 1) ≡ num⁻ (whole z +ℚ whole (pos 1)) + (part⁺ z * 1 + 1 * 1) → (part⁺ z ≤ 25) × (part⁻ z ≤ 25)
    go (pos n) h k e = most n h
    go (negsuc n) h k e =
        (lit≤ tt, least (num⁺ a) (num⁻ a) a.den (num⁺ (whole (negsuc n) +ℚ whole (pos 1))) (num⁻ (whole (negsuc n) +ℚ whole (pos 1))) n (≤ℚ-parts (whole (negsuc 24)) a lo) k e)

-- ---- the clamp does not touch it
unclamped : (x : Float) → T (finite x) → whole (negsuc 24) ≤ℚ value x → value x ≤ℚ whole (pos 25) → clamp_of (bits 0xc2fc_0000) (bits 0x42fe_0000) x ≡ x
unfolding clamp_of value of_bits
unclamped x t lo hi = go (lt x (bits 0xc2fc_0000)) (lt (bits 0x42fe_0000) x) low high
  where
    low : T (lt x (bits 0xc2fc_0000)) → ⊥
    low h =
        let k = lt_le (value x) (value (bits 0xc2fc_0000)) (subst T (lt_value x (bits 0xc2fc_0000) t tt) h) in
        (≤ℚ-trans (whole (negsuc 24)) (value x) (value (bits 0xc2fc_0000)) ((value_defined x).1 t) lo k).le

    high : T (lt (bits 0x42fe_0000) x) → ⊥
    high h =
        let k = lt_le (value (bits 0x42fe_0000)) (value x) (subst T (lt_value (bits 0x42fe_0000) x tt t) h) in
        (≤ℚ-trans (value (bits 0x42fe_0000)) (value x) (whole (pos 25)) ((value_defined x).1 t) k hi).le

    go : (a b : Bool) → (T a → ⊥) → (T b → ⊥) → cond a (bits 0xc2fc_0000) (cond b (bits 0x42fe_0000) x) ≡ x
    go true b h k = absurd (h tt)
    go false true h k = absurd (k tt)
    go false false h k = refl

-- ---- THE THEOREM
finite_case : (x : Float) (A : Fraction) (z : ℤ) → Power x A z → RelativelyWithin (value (horner exp2_coefficients (x ⊖ of_int binary32 z) ⊗ fin false 1 z)) (hornerℚ exp2_terms (A -ℚ whole z) *ℚ power_of_two z) (ratio 11 (2 ^ 24))
finite_case x A z h =
    let B = hornerℚ exp2_terms (A -ℚ whole z) *ℚ power_of_two z in
    within_loosen h.near (mul-pos (pow_pos 24) h.near.right) (scale_le 11 (2 ^ 24) (power_of_two z) (absℚ B) (≤ℚ-trans (power_of_two z) B (absℚ B) h.near.right h.least (le_abs B)))

-- how near y is to B, and the range of both
pub record NearPower (y : Float) (B : Fraction) : Type 0 where
  pub relative : RelativelyWithin (value y) B (ratio 11 (2 ^ 24))
  pub range : Approximates binary32 y B power_bound

within_range : (x : Float) → T (fits binary32 x) → T (finite x) → whole (negsuc 24) ≤ℚ value x → value x ≤ℚ whole (pos 25) → NearPower (exp2_within x) (exp2ℚ (value x))
unfolding exp2_within exp2ℚ fract_of floor_of exp2_scale
within_range nan f t lo hi = absurd t
within_range (inf s) f t lo hi = absurd t
within_range (fin s m e) f t lo hi =
    let x = fin s m e in
    let a = value x in
    let d = (value_defined x).1 t in
    let z = floorℚ a in
    let k = floor_above a d in
    let r = floor_range a z d lo hi (floor_below a d) k in
    let h = power x z f t (floor_below a d) (lt_le a (whole z +ℚ whole (pos 1)) k) r.0 r.1 in
    record { relative = finite_case x a z h; range = h.range }

pub exp2_approximates : (x : Float) → T (fits binary32 x) → T (finite x) → whole (negsuc 24) ≤ℚ value x → value x ≤ℚ whole (pos 25) → NearPower (exp2_of x) (exp2ℚ (value x))
unfolding exp2_of
exp2_approximates x f t lo hi = rw (unclamped x t lo hi) (within_range x f t lo hi)

pub exp2_relative : (x : Float) → T (fits binary32 x) → T (finite x) → whole (negsuc 24) ≤ℚ value x → value x ≤ℚ whole (pos 25) → RelativelyWithin (value (exp2_of x)) (exp2ℚ (value x)) (ratio 11 (2 ^ 24))
exp2_relative x f t lo hi = (exp2_approximates x f t lo hi).relative
