-- log2 IN BINARY32, through u ^ 9, LIES WITHIN 1 / 262,144 OF THE EXACT ONE, through u ^ 31, for every x from 1 to 2 ^ 27. The float's mantissa m and exponent are the
-- exact ones (Mantissa.antt), so both sides work on the same m. In three stages: u = (m - 1) / (m + 1), its series, and the exponent, which is tested
-- for all of them by one computation. Assumes nothing.
use mathlib.Core.Path.{◌≡◌, refl, sym, subst, subst₂, ◌∙◌, ap}
use mathlib.Core.Bool.{Bool, true, false, not, cond}
use Prim.Native.Nat.{ℕ, zero, suc, ◌+◌, ◌-◌, ◌*◌, ◌/◌, ◌%◌, ◌^◌, ◌<◌, ◌≤◌}
use native.Mathlib.Nat.{mul-pos, zero-lt-suc, mul-le-mul_right, le_of_mul-le-mul_right, lt_of_mul-lt-mul_right, mul-lt-mul_of_pos_right, lt_of_le_of_lt, le-div_iff_mul-le, div-lt_iff_lt-mul, pow-suc}
use native.Mathlib.Omega.{arith}
use lib.IntN.{ℤ, pos, negsuc, neg_ℤ, ◌-ℤ◌}
use lib.Signed.{le_z_yes}
use lib.Dec.{T, leb, ltb, lit<, lit≤, ltb→lt, nleb→lt}
use lib.Pow.{pow_pos}
use lib.Ieee.{Float, binary32, size, of_int, of_bits, to_bits, fits, lt}
use lib.Ieee.Bits.{of_bits-fits}
use lib.Ieee.Digits.{size-lt, size-le}
use lib.Ieee.Scale.{finite}
use Rattle.exact.specs.Fraction.{Fraction, Defined, ratio, whole, power_of_two, over, ltℚ, ◌+ℚ◌, ◌-ℚ◌, ◌/ℚ◌, ◌≤ℚ◌}
use Rattle.exact.specs.Value.{value, Equal, Within}
use Rattle.exact.specs.Binary32.{◌⊕◌, ◌⊖◌, ◌⊘◌, bits, zero₃₂, one₃₂}
use Rattle.exact.proofs.Parts.{part⁺, part⁻, num⁺, num⁻, scale⁺, scale⁻, sum_parts, difference_parts}
use Rattle.exact.proofs.Defined.{value_defined}
use Rattle.exact.proofs.Order.{≤ℚ-parts, ≤ℚ-trans, lt_value}
use Rattle.exact.proofs.Inequality.{nlt_le}
use Rattle.rounding.proofs.Quanta.{in_format, nonnegative_quanta, quanta_value, quanta_defined, equal_of_quanta}
use Rattle.rounding.proofs.Operations.{quanta_same}
use Rattle.rounding.proofs.Analyser.{Bound, Expr, var, constant, approx, plus, minus, times, quotient, Approximates, Lower, Upper, Facts, analyse, plain, eval_float, eval_exact}
use Rattle.rounding.proofs.Soundness.{plainly}
use Rattle.rounding.proofs.Inputs.{one, one_input, exact_input, covers, concludes, concluded, result}
use Rattle.series.specs.Horner.{horner, hornerℚ}
use Rattle.log2.specs.Formula.{log2_coefficients, log2_series, log2_mantissa, log2_bits, log2_of}
use Rattle.series.specs.Terms.{terms}
use Rattle.log2.specs.Exact.{log2_term, log2_terms, two_over_log, log2_seriesℚ, log2_mantissaℚ, exponent_of, log2_at, log2_over, log2ℚ}
use Rattle.series.proofs.SeriesExpr.{polynomial, exactly, nearest_to}
use Rattle.lists.proofs.Every.{every, each}
use Rattle.math.proofs.Bits.{pow_less}
use Rattle.log2.proofs.Mantissa.{Scaled, scaled, mantissa_of, exponent_of_bits, field_from_127}

-- ---- THE THREE STAGES
-- m from 1 to 2
mantissa_bound : Bound
mantissa_bound = record { lo = pos (2 ^ 149); hi = pos (2 * 2 ^ 149); err = 0 }

-- u lies from 0 to 1/3, which intervals cannot see
abbrev third : ℕ
third = 2 ^ 149 / 3 + 1

u : Expr
u = quotient (pos 0) (pos third) (minus (var 0) (constant one₃₂)) (plus (var 0) (constant one₃₂))

u_bound : Bound
u_bound = record { lo = pos 0; hi = pos third; err = 107 * 2 ^ 118 }

u_ok : T (concludes binary32 (one mantissa_bound) u u_bound)
unfolding concludes analyse covers u mantissa_bound u_bound one of_bits
u_ok = tt

series : Expr
unfolding polynomial log2_coefficients log2_terms
series = times (times (var 0) (polynomial log2_coefficients log2_terms (times (var 0) (var 0)))) (approx (bits 0x4038_aa3b) two_over_log)

-- from 0 to 1, off by at most 33.2 * 2 ^ -24
series_bound : Bound
series_bound = record { lo = pos 0; hi = pos (2 ^ 149); err = 4244 * 2 ^ 118 }

series_ok : T (concludes binary32 (one u_bound) series series_bound)
unfolding concludes analyse covers u_bound series series_bound polynomial exactly nearest_to log2_coefficients log2_terms terms log2_term one of_bits
series_ok = tt

series_plain : T (plain series)
unfolding plain series polynomial exactly log2_coefficients log2_terms terms
series_plain = tt

added : ℕ → Expr
added e = plus (approx (of_int binary32 (pos e)) (whole (pos e))) (var 0)

-- from 0 to 32, off by at most 1 / 262,144
unfoldable pub log_bound : Bound
log_bound = record { lo = pos 0; hi = pos (2 ^ 154); err = 2 ^ 131 }

added_test : ℕ → Bool
added_test e = concludes binary32 (one series_bound) (added e) log_bound

added_ok : T (every added_test 28)
unfolding every added_test concludes analyse covers added series_bound log_bound one of_int
added_ok = tt

-- ---- what the expressions' evaluations are
series_runs : (v : Float) → eval_float binary32 (one v) series ≡ log2_series v
unfolding eval_float series polynomial exactly one log2_series horner log2_coefficients log2_terms terms
series_runs v = refl

series_means : (v : Fraction) → eval_exact (one v) series ≡ log2_seriesℚ v
unfolding eval_exact series polynomial exactly one log2_seriesℚ hornerℚ log2_coefficients log2_terms terms
series_means v = refl

-- ---- u FROM 0 TO 1/3: for exact A and B with 0 ≤ A, 0 < B and 3 A ≤ B
quotient_lower : (U : ℕ) (A : Fraction) (n : ℤ) (d : ℕ) → 0 < d → part⁻ n < part⁺ n → num⁻ A ≤ num⁺ A → Lower U (over A n d) (pos 0)
quotient_lower U A n zero D o h = absurd (none D)
  where
    none : 0 < 0 → ⊥
    none h = omega arith
quotient_lower U A (negsuc j) (suc c) D o h = absurd (none j o)
  where
    none : (j : ℕ) → suc j < 0 → ⊥
    none j h = omega arith
quotient_lower U A (pos j) (suc c) D o h = rw (scale⁺ A.num (suc c), scale⁻ A.num (suc c)) (core (num⁺ A) (num⁻ A) (A.den * j) (suc c) h)
  where
    core : (P N E c : ℕ) → N ≤ P → 0 * E + N * c * U ≤ P * c * U + 0 * E
    core P N E c h = omega (arith, mul-le-mul_right (c * U) h)

quotient_upper : (U H : ℕ) (A : Fraction) (n : ℤ) (d : ℕ) → U ≤ 3 * H → 0 < d → part⁻ n < part⁺ n → 3 * (num⁺ A * d) + part⁻ n * A.den ≤ 3 * (num⁻ A * d) + part⁺ n * A.den → Upper U (over A n d) (pos H)
quotient_upper U H A n zero l D o h = absurd (none D)
  where
    none : 0 < 0 → ⊥
    none h = omega arith
quotient_upper U H A (negsuc j) (suc c) l D o h = absurd (none j o)
  where
    none : (j : ℕ) → suc j < 0 → ⊥
    none j h = omega arith
quotient_upper U H A (pos j) (suc c) l D o h = rw (scale⁺ A.num (suc c), scale⁻ A.num (suc c)) (core (num⁺ A) (num⁻ A) A.den j (suc c) h)
  where
    core : (P N E β c : ℕ) → 3 * (P * c) + 0 * E ≤ 3 * (N * c) + β * E → P * c * U + 0 * (E * β) ≤ H * (E * β) + N * c * U
    core P N E β c h = le_of_mul-le-mul_right (omega (arith, mul-le-mul_right U h, mul-le-mul_right (E * β) l)) (zero-lt-suc 2)

u_facts : (M : Fraction) → Defined M → num⁻ M + M.den ≤ num⁺ M → num⁺ M ≤ num⁻ M + 2 * M.den → Facts binary32 (one M) u
unfolding u Facts eval_exact one value of_bits
u_facts M d lo hi =
    let A = M -ℚ ratio 1 1 in
    let B = M +ℚ ratio 1 1 in
    let a = difference_parts M (ratio 1 1) in
    let b = sum_parts M (ratio 1 1) in
    let o = above (num⁺ M) (num⁻ M) M.den (num⁺ B) (num⁻ B) d b lo in (
      ((tt, tt), (tt, tt)),
      quotient_lower (2 ^ 149) A B.num B.den (mul-pos d (zero-lt-suc 0)) o (from_zero (num⁺ M) (num⁻ M) M.den (num⁺ A) (num⁻ A) a lo),
      quotient_upper (2 ^ 149) third A B.num B.den (lit≤ tt) (mul-pos d (zero-lt-suc 0)) o (three (num⁺ M) (num⁻ M) M.den (num⁺ A) (num⁻ A) (num⁺ B) (num⁻ B) a b hi),
    )
  where
    above : (P N D Q R : ℕ) → 0 < D → Q + (N * 1 + 0 * D) ≡ R + (P * 1 + 1 * D) → N + D ≤ P → R < Q
    above P N D Q R d e h = omega arith

    from_zero : (P N D Q R : ℕ) → Q + (N * 1 + 1 * D) ≡ R + (P * 1 + 0 * D) → N + D ≤ P → R ≤ Q
    from_zero P N D Q R e h = omega arith

    three : (P N D Q R S W : ℕ) → Q + (N * 1 + 1 * D) ≡ R + (P * 1 + 0 * D) → S + (N * 1 + 0 * D) ≡ W + (P * 1 + 1 * D) → P ≤ N + 2 * D → 3 * (Q * (D * 1)) + W * (D * 1) ≤ 3 * (R * (D * 1)) + S * (D * 1)
    three P N D Q R S W a b h = let k : 3 * Q + W ≤ 3 * R + S = omega arith in omega (arith, mul-le-mul_right D k)

-- ---- A MANTISSA m THAT IS M, from 1 to 2
mantissa_near : (m : Float) (M : Fraction) → T (fits binary32 m) → Equal (value m) M → num⁻ M + M.den ≤ num⁺ M → num⁺ M ≤ num⁻ M + 2 * M.den → Approximates binary32 (log2_mantissa m) (log2_mantissaℚ M) series_bound
unfolding mantissa_bound log2_mantissa log2_mantissaℚ u eval_float eval_exact one value of_bits
mantissa_near m M f e lo hi =
    let in₁ = exact_input binary32 m M (pos (2 ^ 149)) (pos (2 * 2 ^ 149)) f e (lower (2 ^ 149) (num⁺ M) (num⁻ M) M.den lo) (upper (2 ^ 149) (num⁺ M) (num⁻ M) M.den hi) in
    let v = (m ⊖ one₃₂) ⊘ (m ⊕ one₃₂) in
    let W = (M -ℚ whole (pos 1)) /ℚ (M +ℚ whole (pos 1)) in
    let in₂ : Approximates binary32 v W u_bound = concluded binary32 (one m) (one M) (one mantissa_bound) (one_input binary32 m M mantissa_bound in₁) u (u_facts M e.right lo hi) u_bound u_ok in
    subst₂ (λ (y : Float) (B : Fraction). Approximates binary32 y B series_bound) (series_runs v) (series_means W)
    (concluded binary32 (one v) (one W) (one u_bound) (one_input binary32 v W u_bound in₂) series (plainly binary32 (one W) series series_plain) series_bound series_ok)
  where
    lower : (U P N D : ℕ) → N + D ≤ P → U * D + N * U ≤ P * U + 0 * D
    lower U P N D h = omega (arith, mul-le-mul_right U h)

    upper : (U P N D : ℕ) → P ≤ N + 2 * D → P * U + 0 * D ≤ 2 * U * D + N * U
    upper U P N D h = omega (arith, mul-le-mul_right U h)

-- ---- THE EXACT LOGARITHM of A = n / d, of g 2 ^ e quanta, g from 1 to below 2: its exponent is e
exponent_is : (n d e : ℕ) → 0 < d → 2 ^ e * d ≤ n → n < 2 * 2 ^ e * d → exponent_of n d ≡ pos e
unfolding exponent_of
exponent_is n d e D l h = go (leb d n) (nleb→lt d n)
  where
    q : ℕ
    q = n / d

    at_least : 2 ^ e ≤ q
    at_least = (le-div_iff_mul-le D).1 l

    below : q < 2 ^ suc e
    below = (div-lt_iff_lt-mul D).1 (subst (λ (z : ℕ). n < z * d) (sym (pow-suc 2 e ∙ turn (2 ^ e))) h)
      where
        turn : (x : ℕ) → x * 2 ≡ 2 * x
        turn x = omega arith

    digits : size q ≡ suc e
    digits = both (size q) (size-le q (suc e) below) (pow_less e (size q) (lt_of_le_of_lt at_least (size-lt q)))
      where
        both : (z : ℕ) → z ≤ suc e → e < z → z ≡ suc e
        both z h k = omega arith

    last : (z : ℕ) → z ≡ suc e → z - 1 ≡ e
    last z h = omega arith

    none : (t : ℕ) → 0 < t → t * d ≤ n → n < d → ⊥
    none t T' l h = omega (arith, mul-le-mul_right d T')

    go : (b : Bool) → (T (not b) → n < d) → cond b (pos (size (n / d) - 1)) (neg_ℤ (pos (size ((d - 1) / n)))) ≡ pos e
    go true k = ap pos (last (size q) digits)
    go false k = absurd (none (2 ^ e) (pow_pos e) l (k tt))

pub exact_log : (n : ℤ) (d e : ℕ) → 0 < d → 2 ^ e * d + part⁻ n ≤ part⁺ n → part⁺ n < 2 * 2 ^ e * d + part⁻ n → log2_over n d ≡ log2_at (pos e) (record { num = n; den = d })
unfolding log2_over
exact_log n zero e D l h = absurd (none D)
  where
    none : 0 < 0 → ⊥
    none h = omega arith
exact_log (negsuc n) (suc d) e D l h = absurd (none (2 ^ e * suc d) n l)
  where
    none : (x n : ℕ) → x + suc n ≤ 0 → ⊥
    none x n h = omega arith
exact_log (pos zero) (suc d) e D l h = absurd (none (2 ^ e * suc d) (mul-pos (pow_pos e) (zero-lt-suc d)) l)
  where
    none : (x : ℕ) → 0 < x → x + 0 ≤ 0 → ⊥
    none x p h = omega arith
exact_log (pos (suc n)) (suc d) e D l h =
    ap (λ (z : ℤ). log2_at z (ratio (suc n) (suc d))) (exponent_is (suc n) (suc d) e D (flat (2 ^ e * suc d) (suc n) l) (flat' (2 * 2 ^ e * suc d) (suc n) h))
  where
    flat : (x y : ℕ) → x + 0 ≤ y → x ≤ y
    flat x y h = omega arith

    flat' : (x y : ℕ) → y < x + 0 → y < x
    flat' x y h = omega arith

-- ---- THE THEOREM
-- the exponent's field less 127, as a whole number
field_is : (F : ℕ) → 127 ≤ F → pos F -ℤ pos 127 ≡ pos (F - 127)
field_is F h = go (ltb F 127) (ltb→lt F 127)
  where
    none : (F : ℕ) → 127 ≤ F → F < 127 → ⊥
    none F h k = omega arith

    go : (b : Bool) → (T b → F < 127) → cond b (negsuc (127 - suc F)) (pos (F - 127)) ≡ pos (F - 127)
    go true k = absurd (none F h (k tt))
    go false k = refl

-- a number from 1 on is above 0
positive : (x : Float) → T (finite x) → ratio 1 1 ≤ℚ value x → lt zero₃₂ x ≡ true
unfolding value of_bits
positive x t h = lt_value zero₃₂ x tt t ∙ go (ltℚ (value zero₃₂) (value x)) (nlt_le (value zero₃₂) (value x))
  where
    go : (b : Bool) → (T (not b) → value x ≤ℚ value zero₃₂) → b ≡ true
    go true k = refl
    go false k = absurd (≤ℚ-trans (ratio 1 1) (value x) (value zero₃₂) ((value_defined x).1 t) h (k tt)).le

-- x is g 2 ^ e quanta, and its value A is (P - N) / D
log_at : (x m : Float) (e : ℕ) → Scaled x m e → T (fits binary32 m) → e < 28 → Approximates binary32 (of_int binary32 (pos e) ⊕ log2_mantissa m) (log2ℚ (value x)) log_bound
unfolding added_test added eval_float eval_exact one plain log2_at
log_at x m e s f l =
    let A = value x in
    let U = 2 ^ 149 in
    let d = quanta_defined U x (s.g * 2 ^ e) 0 s.all in
    let q = quanta_value U x (s.g * 2 ^ e) 0 s.all in
    let M = A /ℚ power_of_two (pos e) in
    let k : Equal (value m) M = equal_of_quanta U m M s.g 0 (pow_pos 149) (mul-pos d (pow_pos e)) s.mantissa
    (rw (scale⁺ A.num 1, scale⁻ A.num 1) (over_power (num⁺ A) (num⁻ A) A.den s.g (2 ^ e) U q)) in
    let lo = from_one (num⁺ A) (num⁻ A) A.den s.g (2 ^ e) U (pow_pos 149) q s.from_one in
    let hi = to_two (num⁺ A) (num⁻ A) A.den s.g (2 ^ e) U d (pow_pos e) q s.below_two in
    let n = mantissa_near m M f k (rw (scale⁺ A.num 1, scale⁻ A.num 1) (first (num⁺ A) (num⁻ A) A.den (2 ^ e) lo)) (rw (scale⁺ A.num 1, scale⁻ A.num 1) (last (num⁺ A) (num⁻ A) A.den (2 ^ e) hi)) in
    subst (λ (B : Fraction). Approximates binary32 (of_int binary32 (pos e) ⊕ log2_mantissa m) B log_bound) (sym (exact_log A.num A.den e d lo hi))
    (logged M n)
  where
    over_power : (P N D g t U : ℕ) → P * U + 0 * D ≡ N * U + g * t * D → P * 1 * U + 0 * (D * t) ≡ N * 1 * U + g * (D * t)
    over_power P N D g t U e = omega arith

    from_one : (P N D g t U : ℕ) → 0 < U → P * U + 0 * D ≡ N * U + g * t * D → U ≤ g → t * D + N ≤ P
    from_one P N D g t U p e h = le_of_mul-le-mul_right (omega (arith, mul-le-mul_right (t * D) h)) p

    to_two : (P N D g t U : ℕ) → 0 < D → 0 < t → P * U + 0 * D ≡ N * U + g * t * D → g < 2 * U → P < 2 * t * D + N
    to_two P N D g t U d p e h = lt_of_mul-lt-mul_right U (omega (arith, mul-lt-mul_of_pos_right h (mul-pos p d)))

    first : (P N D t : ℕ) → t * D + N ≤ P → N * 1 + D * t ≤ P * 1
    first P N D t h = omega arith

    last : (P N D t : ℕ) → P < 2 * t * D + N → P * 1 ≤ N * 1 + 2 * (D * t)
    last P N D t h = omega arith

    logged : (M : Fraction) → Approximates binary32 (log2_mantissa m) (log2_mantissaℚ M) series_bound → Approximates binary32 (of_int binary32 (pos e) ⊕ log2_mantissa m) (whole (pos e) +ℚ log2_mantissaℚ M) log_bound
    logged M n =
        concluded binary32 (one (log2_mantissa m)) (one (log2_mantissaℚ M)) (one series_bound) (one_input binary32 (log2_mantissa m) (log2_mantissaℚ M) series_bound n) (added e)
        (plainly binary32 (one (log2_mantissaℚ M)) (added e) tt) log_bound (each added_test 28 e added_ok l)

pub log2_approximates : (x : Float) → T (fits binary32 x) → T (finite x) → ratio 1 1 ≤ℚ value x → value x ≤ℚ whole (pos (2 ^ 27)) → Approximates binary32 (log2_of x) (log2ℚ (value x)) log_bound
unfolding log2_of log2_bits
log2_approximates x f t lo hi =
    let A = value x in
    let U = 2 ^ 149 in
    let w = in_format binary32 x f t in
    let G = w.significand * 2 ^ w.shift in
    let h = nonnegative_quanta binary32 x w (≤ℚ-trans (whole (pos 0)) (ratio 1 1) A (lit< tt) (le_z_yes tt) lo) in
    let q = quanta_value U x G 0 h in
    let d = (value_defined x).1 t in
    let l = least (num⁺ A) (num⁻ A) A.den G U d q (≤ℚ-parts (ratio 1 1) A lo) in
    let r = most (num⁺ A) (num⁻ A) A.den G U d q (≤ℚ-parts A (whole (pos (2 ^ 27))) hi) in
    let r' : G < 2 ^ 177 = lt_of_le_of_lt r (lit< tt) in
    let b = to_bits binary32 x in
    let s = scaled x G f h l r' in
    rw (positive x t lo, field_is (b / 0x80_0000) (field_from_127 x G h l r'))
    (log_at x (mantissa_of b) (exponent_of_bits b) s (of_bits-fits binary32 (0x3f80_0000 + b % 0x80_0000)) (small s.g (exponent_of_bits b) G U (pow_pos 149) (quanta_same U x (s.g * 2 ^ exponent_of_bits b) 0 G 0 s.all h) s.from_one r))
  where
    least : (P N D G U : ℕ) → 0 < D → P * U + 0 * D ≡ N * U + G * D → 1 * D + N * 1 ≤ P * 1 + 0 * D → U ≤ G
    least P N D G U d e h = le_of_mul-le-mul_right (omega (arith, mul-le-mul_right U h)) d

    most : (P N D G U : ℕ) → 0 < D → P * U + 0 * D ≡ N * U + G * D → P * 1 + 0 * D ≤ 2 ^ 27 * D + N * 1 → G ≤ 2 ^ 27 * U
    most P N D G U d e h = le_of_mul-le-mul_right (omega (arith, mul-le-mul_right U h)) d

    small : (g e G U : ℕ) → 0 < U → g * 2 ^ e + 0 ≡ G + 0 → U ≤ g → G ≤ 2 ^ 27 * U → e < 28
    small g e G U p i j k = pow_less e 28 (lt_of_mul-lt-mul_right U (core g (2 ^ e) G U p i j k))
      where
        core : (g t G U : ℕ) → 0 < U → g * t + 0 ≡ G + 0 → U ≤ g → G ≤ 2 ^ 27 * U → t * U < 2 ^ 28 * U
        core g t G U p i j k = omega (arith, mul-le-mul_right t j)

pub log2_within : (x : Float) → T (fits binary32 x) → T (finite x) → ratio 1 1 ≤ℚ value x → value x ≤ℚ whole (pos (2 ^ 27)) → Within (value (log2_of x)) (log2ℚ (value x)) (ratio 1 262144)
unfolding log_bound
log2_within x f t lo hi = result binary32 (log2_of x) (log2ℚ (value x)) log_bound 1 262144 (lit< tt) (log2_approximates x f t lo hi) (lit≤ tt)
