-- THE SLOPE OF THE EXACT log2 OVER ITS STEPS. With T the series, log2 of 2 ^ e m is e + T u at u = (m - 1) / (m + 1), which m from 1 to 2 takes from 0 to 1/3. How far u moves
-- with m, and T with u. Under two exponents, T at 1/3 is 1 but for 2 * 10 ^ -17, so that both T u and 1 + T v lie within their slopes of 1. Assumes nothing.
use mathlib.Core.Path.{◌≡◌, refl, ap, ◌∙◌}
use mathlib.Core.List.{List}
use Prim.Native.Nat.{ℕ, ◌+◌, ◌*◌, ◌^◌, ◌≤◌, ◌<◌}
use native.Mathlib.Nat.{mul-le-mul_right, le_of_mul-le-mul_right}
use native.Mathlib.Omega.{arith}
use lib.Dec.{lit<, lit≤}
use Rattle.exact.specs.Fraction.{Fraction, Defined, ◌*ℚ◌}
use Rattle.exact.proofs.Close.{ring}
use Rattle.series.specs.Horner.{hornerℚ}
use Rattle.series.specs.Terms.{terms}
use Rattle.log2.specs.Exact.{log2_term, log2_terms, two_over_log, log2_seriesℚ}
use Rattle.series.proofs.Nonnegative.{Quotient, fraction, quotient, nonnegative, natural, ◌⊞◌, ◌⊠◌, ◌≼◌, ≼_refl, ≼_trans, ≼-more, ⊞-mono, ⊠-mono, ⊞-assoc, ⊠-assoc, expand, times_one}
use Rattle.series.proofs.PolynomialSlope.{value_at, slope_at, fractions, quotients, value_fraction, value_grows, value_slope, product_slope}

-- ---- THE SERIES
term_defined : (n : ℕ) → Defined (log2_term n)
unfolding log2_term
term_defined n = omega arith

pub coefficient : ℕ → Quotient
coefficient n = nonnegative (log2_term n) (term_defined n)

abbrev coefficients : List Quotient
coefficients = quotients coefficient 0 16

coefficients_terms : log2_terms ≡ fractions coefficients
unfolding log2_terms terms log2_term fractions quotients coefficient
coefficients_terms = refl

abbrev H : Quotient → Quotient
H u = value_at coefficients (u ⊠ u)

abbrev factor : Quotient
factor = nonnegative two_over_log (lit< tt)

abbrev pub series : Quotient → Quotient
series u = u ⊠ H u ⊠ factor

pub series_is : (u : Quotient) → log2_seriesℚ (fraction u) ≡ fraction (series u)
unfolding log2_seriesℚ
series_is u =
    ap (λ (cs : List Fraction). fraction u *ℚ hornerℚ cs (fraction u *ℚ fraction u) *ℚ two_over_log) coefficients_terms ∙ ap (λ (y : Fraction). fraction u *ℚ y *ℚ two_over_log) (value_fraction coefficients (u ⊠ u))

-- ---- its slope up to 1/3, and its values at 0 and at 1/3, within 2 ^ -30
abbrev pub third : Quotient
third = quotient 1 3 (lit< tt)

abbrev slack : Quotient
slack = quotient 1 (2 ^ 30) (lit< tt)

-- the slopes of u ^ 2, of the series in u ^ 2, and of u times that
abbrev square_steep : Quotient
square_steep = third ⊞ third ⊠ natural 1

abbrev inner_steep : Quotient
inner_steep = square_steep ⊠ slope_at coefficients (third ⊠ third)

abbrev outer_steep : Quotient
outer_steep = H third ⊞ third ⊠ inner_steep

abbrev steep : Quotient
steep = quotient 13 4 (lit< tt)

slope_below : outer_steep ⊠ factor ≼ steep
unfolding slope_at value_at quotients coefficient log2_term
slope_below = record { le = lit≤ tt }

series_zero : series (quotient 0 2 (lit< tt)) ≼ natural 0
unfolding value_at quotients coefficient log2_term
series_zero = record { le = lit≤ tt }

one_below : natural 1 ≼ series third ⊞ slack
unfolding value_at quotients coefficient log2_term
one_below = record { le = lit≤ tt }

one_above : series third ≼ natural 1 ⊞ slack
unfolding value_at quotients coefficient log2_term
one_above = record { le = lit≤ tt }

pub series_grows : {u v : Quotient} → u ≼ v → series u ≼ series v
series_grows h = ⊠-mono (⊠-mono h (value_grows coefficients (⊠-mono h h))) (≼_refl factor)

series_slope : (u v h : Quotient) → u ≼ third → v ≼ third → v ≼ u ⊞ h → series v ≼ series u ⊞ h ⊠ steep
series_slope u v h a b k =
    let squares = product_slope h u (natural 1) k (≼_trans k (⊞-mono (≼_refl u) (times_one h))) b a in
    let inner = ≼_trans (value_slope coefficients (u ⊠ u) (v ⊠ v) (h ⊠ square_steep) (third ⊠ third) (⊠-mono a a) (⊠-mono b b) squares)
    (⊞-mono (≼_refl (H u)) (⊠-assoc h square_steep (slope_at coefficients (third ⊠ third)))) in
    let outer = product_slope h (H u) inner_steep k inner (value_grows coefficients (⊠-mono b b)) a in
    ≼_trans (⊠-mono outer (≼_refl factor))
    (≼_trans (expand (u ⊠ H u) (h ⊠ outer_steep) factor) (⊞-mono (≼_refl (series u)) (≼_trans (⊠-assoc h outer_steep factor) (⊠-mono (≼_refl h) slope_below))))

-- ---- THE ARGUMENT u of m = (K + i) / K is i / (2 K + i); of m' = (K' + j) / K' that is near m, it lies 8/15 as far off at most
unfoldable pub at : (K i : ℕ) → 0 < K → Quotient
at K i k = quotient i (2 * K + i) (above K i k)
  where
    above : (K i : ℕ) → 0 < K → 0 < 2 * K + i
    above K i k = omega arith

pub at_third : (K i : ℕ) (k : 0 < K) → i ≤ K → at K i k ≼ third
unfolding at
at_third K i k h = record { le = core K i h }
  where
    core : (K i : ℕ) → i ≤ K → i * 3 ≤ 1 * (2 * K + i)
    core K i h = omega arith

pub at_grows : (K i K' j : ℕ) (k : 0 < K) (l : 0 < K') → (K + i) * K' ≤ (K' + j) * K → at K i k ≼ at K' j l
unfolding at
at_grows K i K' j k l h = record { le = core K i K' j h }
  where
    core : (K i K' j : ℕ) → (K + i) * K' ≤ (K' + j) * K → i * (2 * K' + j) ≤ j * (2 * K + i)
    core K i K' j h = omega arith

-- 8/15 of n / 2 ^ 24
abbrev pub step : ℕ → Quotient
step n = quotient (8 * n) (15 * 2 ^ 24) (lit< tt)

-- a relative difference of 1/16 at most: A (1 - n / 2 ^ 24) ≤ B gives 15 A ≤ 16 B
pub sixteenth : (A B n w : ℕ) → n + w ≡ 2 ^ 24 → 15 * n ≤ w → A * w ≤ B * 2 ^ 24 → 15 * A ≤ 16 * B
sixteenth A B n w s f h = core (2 ^ 24) (positive n w s f) s h
  where
    positive : (n w : ℕ) → n + w ≡ 2 ^ 24 → 15 * n ≤ w → 0 < w
    positive n w s f = omega arith

    core : (Z : ℕ) → 0 < w → n + w ≡ Z → A * w ≤ B * Z → 15 * A ≤ 16 * B
    core Z p s h = le_of_mul-le-mul_right (omega (arith, ap (λ (z : ℕ). B * z) s, mul-le-mul_right B f)) p

pub at_near : (K i K' j n w : ℕ) (k : 0 < K) (l : 0 < K') → n + w ≡ 2 ^ 24 → 15 * n ≤ w → (K' + j) * K * w ≤ (K + i) * K' * 2 ^ 24 → at K' j l ≼ at K i k ⊞ step n
unfolding at
at_near K i K' j n w k l s f h = record { le = last K i K' j n (2 ^ 24) (moved (K * K') (j * K) (i * K') n w (2 ^ 24) s (recast K i K' j w (2 ^ 24) h)) (bounds K i K' j n (sixteenth ((K' + j) * K) ((K + i) * K') n w s f h)) }
  where
    bounds : (K i K' j n : ℕ) → 15 * ((K' + j) * K) ≤ 16 * ((K + i) * K') → n * (30 * ((K' + j) * K)) ≤ n * (8 * ((2 * K + i) * (2 * K' + j)))
    bounds K i K' j n h = let b : 30 * ((K' + j) * K) ≤ 8 * ((2 * K + i) * (2 * K' + j)) = omega arith in omega (arith, mul-le-mul_right n b)

    recast : (K i K' j w Z : ℕ) → (K' + j) * K * w ≤ (K + i) * K' * Z → (K * K' + j * K) * w ≤ (K * K' + i * K') * Z
    recast K i K' j w Z h = omega arith

    -- (m' - m) Z ≤ n m', times K K'
    moved : (q x y n w Z : ℕ) → n + w ≡ Z → (q + x) * w ≤ (q + y) * Z → x * Z ≤ y * Z + n * (q + x)
    moved q x y n w Z s h = omega (arith, ap (λ (z : ℕ). (q + x) * z) s)

    last : (K i K' j n Z : ℕ) → j * K * Z ≤ i * K' * Z + n * (K * K' + j * K) → n * (30 * ((K' + j) * K)) ≤ n * (8 * ((2 * K + i) * (2 * K' + j)))
        → j * ((2 * K + i) * (15 * Z)) ≤ (i * (15 * Z) + 8 * n * (2 * K + i)) * (2 * K' + j)
    last K i K' j n Z h b = simp ring (omega (arith, simp ring at h, simp ring at b))

-- ---- UNDER ONE EXPONENT, and under two
-- (4 n + 1) / 2 ^ 24
abbrev pub far : ℕ → Quotient
far n = quotient (4 * n + 1) (2 ^ 24) (lit< tt)

pub record Near (a b q : Quotient) : Type 0 where
  pub back : a ≼ b ⊞ q
  pub forth : b ≼ a ⊞ q

pub one_exponent : (u v : Quotient) (n : ℕ) → u ≼ v → v ≼ third → v ≼ u ⊞ step n → Near (series u) (series v) (far n)
one_exponent u v n l b h =
    record {
      back = ≼_trans (series_grows l) (≼-more (series v) (far n));
      forth = ≼_trans (series_slope u v (step n) (≼_trans l b) b h) (⊞-mono (≼_refl (series u)) (record { le = small n }));
    }
  where
    small : (n : ℕ) → 8 * n * 13 * 2 ^ 24 ≤ (4 * n + 1) * (15 * 2 ^ 24 * 4)
    small n = omega arith

pub two_exponents : (u v : Quotient) (n : ℕ) → u ≼ third → v ≼ third → third ≼ u ⊞ step n → v ≼ quotient 0 2 (lit< tt) ⊞ step n → Near (series u) (natural 1 ⊞ series v) (far n)
two_exponents u v n a b h k =
    record {
      back = ≼_trans (series_grows a) (≼_trans one_above (⊞-mono (≼-more (natural 1) (series v)) small));
      forth =
          ≼_trans (⊞-mono upper lower)
          (≼_trans (⊞-assoc (series u ⊞ d) slack d)
          (≼_trans (⊞-assoc (series u) d (slack ⊞ d)) (⊞-mono (≼_refl (series u)) (record { le = sum n }))));
    }
  where
    d : Quotient
    d = step n ⊠ steep

    zero_plus : (a : Quotient) → natural 0 ⊞ a ≼ a
    zero_plus a = record { le = core a.top a.base }
      where
        core : (p q : ℕ) → (0 * q + p * 1) * q ≤ p * (1 * q)
        core p q = omega arith

    upper : natural 1 ≼ series u ⊞ d ⊞ slack
    upper = ≼_trans one_below (⊞-mono (series_slope u third (step n) a (≼_refl third) h) (≼_refl slack))

    lower : series v ≼ d
    lower = ≼_trans (series_slope (quotient 0 2 (lit< tt)) v (step n) (record { le = lit≤ tt }) b k) (≼_trans (⊞-mono series_zero (≼_refl d)) (zero_plus d))

    small : slack ≼ far n
    small = record { le = core n }
      where
        core : (n : ℕ) → 1 * 2 ^ 24 ≤ (4 * n + 1) * 2 ^ 30
        core n = omega arith

    sum : (n : ℕ) → (8 * n * 13 * (2 ^ 30 * (15 * 2 ^ 24 * 4)) + (1 * (15 * 2 ^ 24 * 4) + 8 * n * 13 * 2 ^ 30) * (15 * 2 ^ 24 * 4)) * 2 ^ 24 ≤ (4 * n + 1) * (15 * 2 ^ 24 * 4 * (2 ^ 30 * (15 * 2 ^ 24 * 4)))
    sum n = omega arith
