-- THE EXACT SINE PASSES 1 BY AT MOST 3.21 MILLIONTHS over a quarter turn, and so -1 over a turn. Up to 5/32 of a turn, and of
-- the terms from order 9 up, intervals say so; the rest is the polynomial of SinePolynomial. The range of sin_turns follows. Assumes nothing.
use mathlib.Core.Path.{◌≡◌, refl, sym, subst, subst₂}
use mathlib.Core.Logic.{◌⊎◌, inl, inr}
use mathlib.Core.Bool.{Bool, true, false, cond}
use Prim.Native.Nat.{ℕ, suc, ◌+◌, ◌-◌, ◌*◌, ◌/◌, ◌^◌, ◌≤◌, ◌<◌}
use native.Mathlib.Nat.{mul-pos, mul-le-mul_right, le_of_mul-le-mul_right}
use native.Mathlib.Omega.{arith}
use lib.IntN.{ℤ, pos, negsuc}
use lib.Dec.{T, lit<, lit≤}
use lib.Pow.{pow_pos}
use lib.Signed.{le_z_yes}
use lib.Ieee.{Float, binary32, of_bits, fits}
use lib.Ieee.Fits.{mul-fits}
use Rattle.exact.specs.Fraction.{Fraction, ratio, whole, negℚ, ltℚ, ◌*ℚ◌, ◌≤ℚ◌}
use Rattle.exact.proofs.Parts.{num⁺, num⁻, neg⁺, neg⁻, mul⁺, mul⁻, times⁺, times⁻}
use Rattle.exact.proofs.Defined.{choice_is}
use Rattle.exact.proofs.Order.{≤ℚ-parts, parts-≤ℚ, ≤ℚ-trans, ≤ℚ-total}
use Rattle.rounding.proofs.Bounds.{lower_at, upper_at}
use Rattle.rounding.proofs.Analyser.{Bound, Expr, var, approx, times, Approximates, Lower, Upper, plain, eval_exact, analyse}
use Rattle.rounding.proofs.Soundness.{plainly}
use Rattle.rounding.proofs.Inputs.{one, one_input, exact_input, covers, relax, concludes, concluded}
use Rattle.rounding.proofs.OwnRange.{widened, own_range}
use Rattle.exact.specs.Value.{value}
use Rattle.exact.specs.Binary32.{bits}
use Rattle.series.proofs.SeriesExpr.{exactly, nearest_to}
use Rattle.floor.proofs.Turned.{Turned}
use Rattle.sine.proofs.Fold.{half_turn, quarter_turn}
use Rattle.floor.proofs.Phase.{Phase, fract_turned}
use Rattle.sine.proofs.SineError.{turns_bound, sin_turns_near}
use Rattle.floor.specs.Formula.{fract_of}
use Rattle.sine.specs.Formula.{half_of, quarter_of, sine_of_cycle, sin_turns_of}
use Rattle.series.specs.Horner.{hornerℚ}
use Rattle.floor.specs.Exact.{fractℚ}
use Rattle.sine.specs.Exact.{turn, sine_term, sine_terms, halfℚ, quarterℚ, signℚ, sine_of_angleℚ, sine_of_quarterℚ, sine_of_cycleℚ, sin_turnsℚ}
use Rattle.series.specs.Terms.{terms, factorial}
use Rattle.sine.proofs.SinePolynomial.{Below, tail_at, angle_most}

-- ---- OVER A QUARTER TURN q: up to 5/32 by intervals, and from there on by the polynomial
angle : Expr
angle = times (var 0) (approx (bits 0x40c9_0fdb) turn)

early : Bound
early = record { lo = pos 0; hi = pos (5 * 2 ^ 144); err = 0 }

late : Bound
late = record { lo = pos (5 * 2 ^ 144); hi = pos (2 ^ 147); err = 0 }

quarter : Bound
quarter = record { lo = pos 0; hi = pos (2 ^ 147); err = 0 }

whole_series : Expr
unfolding angle exactly sine_terms
whole_series = times angle (exactly sine_terms (times angle angle))

tail : Expr
unfolding angle exactly
tail = exactly (terms sine_term 4 7) (times angle angle)

-- what they come to: the series from 0, early at most 1; the terms from order 9 up at most 274 / 10 ^ 8
positive : Bound
positive = record { lo = pos 0; hi = pos (2 ^ 150); err = 2 ^ 149 }

small : Bound
small = record { lo = pos 0; hi = pos (2 ^ 149); err = 2 ^ 149 }

tail_most : ℕ
tail_most = 274 * 2 ^ 149 / 100000000

tiny : Bound
unfolding tail_most
tiny = record { lo = pos 0; hi = pos tail_most; err = 2 ^ 149 }

positive_ok : T (concludes binary32 (one quarter) whole_series positive)
unfolding concludes analyse covers quarter positive whole_series angle exactly nearest_to sine_terms terms sine_term factorial one of_bits
positive_ok = tt

early_ok : T (concludes binary32 (one early) whole_series small)
unfolding concludes analyse covers early small whole_series angle exactly nearest_to sine_terms terms sine_term factorial one of_bits
early_ok = tt

late_ok : T (concludes binary32 (one late) tail tiny)
unfolding concludes analyse covers late tiny tail_most tail angle exactly nearest_to terms sine_term factorial one of_bits
late_ok = tt

-- the exact values of the two expressions
series_means : (Q : Fraction) → eval_exact (one Q) whole_series ≡ sine_of_quarterℚ Q
unfolding eval_exact whole_series angle exactly one sine_of_quarterℚ sine_of_angleℚ hornerℚ sine_terms terms
series_means Q = refl

tail_means : (Q : Fraction) → eval_exact (one Q) tail ≡ tail_at (Q *ℚ turn *ℚ (Q *ℚ turn))
unfolding eval_exact tail angle exactly one hornerℚ terms
tail_means Q = refl

series_plain : T (plain whole_series)
unfolding plain whole_series angle exactly sine_terms terms
series_plain = tt

tail_plain : T (plain tail)
unfolding plain tail angle exactly terms
tail_plain = tt

input : (q : Float) (Q : Fraction) (l h : ℕ) → Turned q Q (ratio 1 4) → Lower (2 ^ 149) Q (pos l) → Upper (2 ^ 149) Q (pos h) → (i : ℕ) → Approximates binary32 (one q i) (one Q i) (one (record { lo = pos l; hi = pos h; err = 0 }) i)
input q Q l h t a b = one_input binary32 q Q (record { lo = pos l; hi = pos h; err = 0 }) (exact_input binary32 q Q (pos l) (pos h) t.holds t.is a b)

-- from quanta to fractions
upper_le : (U A' E : ℕ) (x : Fraction) (H : ℕ) → 0 < U → H * E ≤ A' * U → Upper U x (pos H) → Below x A' 0 E
upper_le U A' E x H u l h = record { le = core (num⁺ x) (num⁻ x) x.den h }
  where
    core : (P N D : ℕ) → P * U + 0 * D ≤ H * D + N * U → P * E + 0 * D ≤ A' * D + N * E
    core P N D h = le_of_mul-le-mul_right (omega (arith, mul-le-mul_right E h, mul-le-mul_right D l)) u

lower_le : (U : ℕ) (x : Fraction) → 0 < U → Lower U x (pos 0) → ratio 0 1 ≤ℚ x
lower_le U x u h = parts-≤ℚ (ratio 0 1) x (core (num⁺ x) (num⁻ x) x.den h)
  where
    core : (P N D : ℕ) → 0 * D + N * U ≤ P * U + 0 * D → 0 * D + N * 1 ≤ P * 1 + 0 * D
    core P N D h = let r : N ≤ P = le_of_mul-le-mul_right (omega arith) u in omega arith

below_le : (x : Fraction) (P D : ℕ) → Below x P 0 D → x ≤ℚ ratio P D
below_le x P D h = parts-≤ℚ x (ratio P D) (core (num⁺ x) (num⁻ x) x.den h.le)
  where
    core : (A B C : ℕ) → A * D + 0 * C ≤ P * C + B * D → A * D + 0 * C ≤ P * C + B * D
    core A B C h = h

pub sine_least : (q : Float) (Q : Fraction) → Turned q Q (ratio 1 4) → ratio 0 1 ≤ℚ sine_of_quarterℚ Q
unfolding quarter positive
sine_least q Q t =
    let i = input q Q 0 (2 ^ 147) t (lower_at (2 ^ 149) Q 0 1 0 (lit< tt) (lit≤ tt) t.above) (upper_at (2 ^ 149) Q 1 4 (2 ^ 147) (lit< tt) (lit≤ tt) t.below) in
    let w = concluded binary32 (one q) (one Q) (one quarter) i whole_series (plainly binary32 (one Q) whole_series series_plain) positive positive_ok in
    subst (λ (x : Fraction). ratio 0 1 ≤ℚ x) (series_means Q) (lower_le (2 ^ 149) (eval_exact (one Q) whole_series) (pow_pos 149) w.lower)

early_most : (q : Float) (Q : Fraction) → Turned q Q (ratio 1 4) → Q ≤ℚ ratio 5 32 → sine_of_quarterℚ Q ≤ℚ ratio 1 1
unfolding early small
early_most q Q t h =
    let i = input q Q 0 (5 * 2 ^ 144) t (lower_at (2 ^ 149) Q 0 1 0 (lit< tt) (lit≤ tt) t.above) (upper_at (2 ^ 149) Q 5 32 (5 * 2 ^ 144) (lit< tt) (lit≤ tt) h) in
    let w = concluded binary32 (one q) (one Q) (one early) i whole_series (plainly binary32 (one Q) whole_series series_plain) small early_ok in
    subst (λ (x : Fraction). x ≤ℚ ratio 1 1) (series_means Q)
    (below_le (eval_exact (one Q) whole_series) 1 1 (upper_le (2 ^ 149) 1 1 (eval_exact (one Q) whole_series) (2 ^ 149) (pow_pos 149) (lit≤ tt) w.upper))

late_tail : (q : Float) (Q : Fraction) → Turned q Q (ratio 1 4) → ratio 5 32 ≤ℚ Q → Below (tail_at (Q *ℚ turn *ℚ (Q *ℚ turn))) 274 0 (100000000 * 1)
unfolding late tiny tail_most
late_tail q Q t h =
    let i = input q Q (5 * 2 ^ 144) (2 ^ 147) t (lower_at (2 ^ 149) Q 5 32 (5 * 2 ^ 144) (lit< tt) (lit≤ tt) h) (upper_at (2 ^ 149) Q 1 4 (2 ^ 147) (lit< tt) (lit≤ tt) t.below) in
    let w = concluded binary32 (one q) (one Q) (one late) i tail (plainly binary32 (one Q) tail tail_plain) tiny late_ok in
    subst (λ (x : Fraction). Below x 274 0 (100000000 * 1)) (tail_means Q)
    (upper_le (2 ^ 149) 274 100000000 (eval_exact (one Q) tail) (274 * 2 ^ 149 / 100000000) (pow_pos 149) (lit≤ tt) w.upper)

late_most : (z : ℤ) (e : ℕ) → 0 < e → ratio 0 1 ≤ℚ record { num = z; den = e } → record { num = z; den = e } ≤ℚ ratio 1 4
    → Below (tail_at (record { num = z; den = e } *ℚ turn *ℚ (record { num = z; den = e } *ℚ turn))) 274 0 (100000000 * 1) → sine_of_quarterℚ (record { num = z; den = e }) ≤ℚ ratio 100000321 100000000
unfolding sine_of_quarterℚ
late_most (negsuc m) e O l h t = absurd (none m e (≤ℚ-parts (ratio 0 1) (record { num = negsuc m; den = e }) l))
  where
    none : (m e : ℕ) → 0 * e + suc m * 1 ≤ 0 * 1 + 0 * e → ⊥
    none m e h = omega arith
late_most (pos m) e O l h t = angle_most (m * 628318530717958647692) (e * 100000000000000000000) (mul-pos O (lit< tt)) (most m e 628318530717958647692 100000000000000000000 (≤ℚ-parts (ratio m e) (ratio 1 4) h) (lit≤ tt)) t
  where
    most : (m e a b : ℕ) → m * 4 + 0 * e ≤ 1 * e + 0 * 4 → 226 * a ≤ 1420 * b → 226 * (m * a) ≤ 355 * (e * b)
    most m e a b h k = omega (arith, mul-le-mul_right m k, mul-le-mul_right b h)

-- THE SERIES over a quarter turn: at most 1 + 321 / 10 ^ 8
pub sine_most : (q : Float) (Q : Fraction) → Turned q Q (ratio 1 4) → sine_of_quarterℚ Q ≤ℚ ratio 100000321 100000000
sine_most q Q t = go (≤ℚ-total Q (ratio 5 32))
  where
    go : (Q ≤ℚ ratio 5 32) ⊎ (ratio 5 32 ≤ℚ Q) → sine_of_quarterℚ Q ≤ℚ ratio 100000321 100000000
    go (inl h) = ≤ℚ-trans (sine_of_quarterℚ Q) (ratio 1 1) (ratio 100000321 100000000) (lit< tt) (early_most q Q t h) (le_z_yes tt)
    go (inr h) = late_most Q.num Q.den t.is.right t.above t.below (late_tail q Q t h)

-- ---- -n / d: g + 1 quanta below 0
lower_below : (U : ℕ) (A : Fraction) (n d g : ℕ) → 0 < d → n * U ≤ suc g * d → negℚ (ratio n d) ≤ℚ A → Lower U A (negsuc g)
lower_below U A n d g D l h =
    le_of_mul-le-mul_right (core (num⁺ A) (num⁻ A) A.den (subst₂ (λ (a b : ℕ). a * A.den + num⁻ A * d ≤ num⁺ A * d + b * A.den) (neg⁺ (pos n)) (neg⁻ (pos n)) (≤ℚ-parts (negℚ (ratio n d)) A h))) D
  where
    core : (P N E : ℕ) → 0 * E + N * d ≤ P * d + n * E → (0 * E + N * U) * d ≤ (P * U + suc g * E) * d
    core P N E h = omega (arith, mul-le-mul_right E l, mul-le-mul_right U h)

-- ±S for an S from 0 to M / E
record Sized (Y : Fraction) (M E : ℕ) : Type 0 where
  from : negℚ (ratio M E) ≤ℚ Y
  to : Y ≤ℚ ratio M E

sized : (b : Bool) (S : Fraction) (M E : ℕ) → ratio 0 1 ≤ℚ S → S ≤ℚ ratio M E → Sized (cond b (whole (pos 1)) (whole (negsuc 0)) *ℚ S) M E
sized true S M E l h =
    let Y = whole (pos 1) *ℚ S in
    record {
      from = parts-≤ℚ (negℚ (ratio M E)) Y (rw (neg⁺ (pos M), neg⁻ (pos M), times⁺ 1 S.num, times⁻ 1 S.num) (low (num⁺ S) (num⁻ S) S.den (≤ℚ-parts (ratio 0 1) S l)));
      to = parts-≤ℚ Y (ratio M E) (rw (times⁺ 1 S.num, times⁻ 1 S.num) (high (num⁺ S) (num⁻ S) S.den (≤ℚ-parts S (ratio M E) h)));
    }
  where
    low : (P N D : ℕ) → 0 * D + N * 1 ≤ P * 1 + 0 * D → 0 * (1 * D) + 1 * N * E ≤ 1 * P * E + M * (1 * D)
    low P N D h = omega (arith, mul-le-mul_right E h)

    high : (P N D : ℕ) → P * E + 0 * D ≤ M * D + N * E → 1 * P * E + 0 * (1 * D) ≤ M * (1 * D) + 1 * N * E
    high P N D h = omega arith
sized false S M E l h =
    let Y = whole (negsuc 0) *ℚ S in
    record {
      from = parts-≤ℚ (negℚ (ratio M E)) Y (rw (neg⁺ (pos M), neg⁻ (pos M), mul⁺ (negsuc 0) S.num, mul⁻ (negsuc 0) S.num) (low (num⁺ S) (num⁻ S) S.den (≤ℚ-parts S (ratio M E) h)));
      to = parts-≤ℚ Y (ratio M E) (rw (mul⁺ (negsuc 0) S.num, mul⁻ (negsuc 0) S.num) (high (num⁺ S) (num⁻ S) S.den (≤ℚ-parts (ratio 0 1) S l)));
    }
  where
    low : (P N D : ℕ) → P * E + 0 * D ≤ M * D + N * E → 0 * (1 * D) + (0 * N + 1 * P) * E ≤ (0 * P + 1 * N) * E + M * (1 * D)
    low P N D h = omega arith

    high : (P N D : ℕ) → 0 * D + N * 1 ≤ P * 1 + 0 * D → (0 * P + 1 * N) * E + 0 * (1 * D) ≤ M * (1 * D) + (0 * N + 1 * P) * E
    high P N D h = omega (arith, mul-le-mul_right E h)

-- 3.21 millionths beyond 1, and 71 * 2 ^ -24 off
abbrev beyond : ℕ
beyond = (100000321 * 2 ^ 149 + 99999999) / 100000000

unfoldable pub sine_bound : Bound
sine_bound = record { lo = negsuc (beyond - 1); hi = pos beyond; err = 71 * 2 ^ 125 }

-- THE THEOREM, for every phase of a curve
pub sine_enclosed : (x : Float) → T (fits binary32 x) → Phase x → Approximates binary32 (sin_turns_of x) (sin_turnsℚ (value x)) sine_bound
unfolding sin_turnsℚ sine_of_cycleℚ sine_bound turns_bound
sine_enclosed x f p =
    let h = sin_turns_near x f p in
    let C = fractℚ (value x) in
    let c = fract_turned x f p in
    let q = quarter_of (half_of (fract_of x)) in
    let Q = quarterℚ (halfℚ C) in
    let t = quarter_turn (half_of (fract_of x)) (halfℚ C) (half_turn (fract_of x) C c) in
    let z =
    subst (λ (s : Fraction). Sized (s *ℚ sine_of_quarterℚ Q) 100000321 100000000) (sym (choice_is C (ratio 1 2) c.is.right (lit< tt) (whole (pos 1)) (whole (negsuc 0))))
    (sized (ltℚ C (ratio 1 2)) (sine_of_quarterℚ Q) 100000321 100000000 (sine_least q Q t) (sine_most q Q t)) in
    record {
      defined = h.defined;
      near = h.near;
      lower = lower_below (2 ^ 149) (signℚ C *ℚ sine_of_quarterℚ Q) 100000321 100000000 (beyond - 1) (lit< tt) (lit≤ tt) z.from;
      upper = upper_at (2 ^ 149) (signℚ C *ℚ sine_of_quarterℚ Q) 100000321 100000000 beyond (lit< tt) (lit≤ tt) z.to;
    }

-- ---- THE RANGE of sin_turns itself: from -47/32 to 47/32, which is less than the 1.5 that the noise raises it by
unfoldable pub sine_range : Bound
sine_range = record { lo = negsuc (47 * 2 ^ 144 - 1); hi = pos (47 * 2 ^ 144); err = 0 }

wide : T (covers (widened sine_bound) sine_range)
unfolding covers sine_bound sine_range
wide = tt

pub sin_turns_range : (x : Float) → T (fits binary32 x) → Phase x → Approximates binary32 (sin_turns_of x) (value (sin_turns_of x)) sine_range
sin_turns_range x f p =
    let y = sin_turns_of x in
    relax binary32 y (value y) (widened sine_bound) sine_range (own_range binary32 y (sin_turnsℚ (value x)) sine_bound (unfold sin_turns_of sine_of_cycle in mul-fits binary32 _ _) (sine_enclosed x f p)) wide
