-- THE LOGARITHM OF 1 + 2 ^ s, near the exact one, for an s from -24 to 24 that is off by at most 68 * 2 ^ -24. Each stage is a relative error: 2 ^ s in binary32, the exact 2 ^ s
-- at the two exponents, and 1 + 2 ^ s, which is at least 1 in both; then the exact logarithm of the two sums, and log2 in binary32. Assumes nothing.
use mathlib.Core.Path.{◌≡◌, refl, sym, subst}
use mathlib.Core.Bool.{Bool, true, false, cond}
use Prim.Native.Nat.{ℕ, ◌+◌, ◌-◌, ◌*◌, ◌^◌, ◌≤◌, ◌<◌}
use native.Mathlib.Nat.{zero-lt-suc, mul-pos, le_of_mul-le-mul_right}
use native.Mathlib.Omega.{arith}
use lib.IntN.{pos, negsuc}
use lib.Signed.{le_z_yes}
use lib.Dec.{T, lit<, lit≤}
use lib.Pow.{pow_pos}
use lib.Ieee.{Float, binary32, round, of_bits, to_bits, of_int, fits, lt, le, add, sub, mul, div}
use lib.Ieee.Fits.{add-fits, mul-fits}
use lib.Ieee.Order.{round_mono}
use lib.Ieee.Scale.{finite}
use Rattle.exact.specs.Fraction.{Fraction, ratio, whole, ltℚ, absℚ, ◌+ℚ◌, ◌-ℚ◌, ◌≤ℚ◌}
use Rattle.exact.specs.Value.{value, Within, RelativelyWithin}
use Rattle.exact.specs.Binary32.{◌⊕◌, bits, one₃₂}
use Rattle.exact.proofs.Defined.{value_defined}
use Rattle.exact.proofs.Parts.{num⁺, num⁻, sum_parts}
use Rattle.exact.proofs.Order.{≤ℚ-parts, parts-≤ℚ, ≤ℚ-trans, sum_raise_left, within_loosen, lt_value, le_value}
use Rattle.exact.proofs.Inequality.{minus_at_most, at_least_minus, lt_le}
use Rattle.rounding.proofs.Operations.{Signed, add_is}
use Rattle.rounding.proofs.Quanta.{in_format, nonnegative_quanta}
use Rattle.rounding.proofs.Signs.{relative_nonnegative}
use Rattle.rounding.proofs.Relative.{relative_loosen, relative_chain, relative_one_plus}
use Rattle.rounding.proofs.UnitRoundoff.{add_relative}
use Rattle.rounding.proofs.Analyser.{Bound, Expr, var, constant, plus, Approximates, analyse, plain, eval_float, eval_exact}
use Rattle.rounding.proofs.Soundness.{plainly}
use Rattle.rounding.proofs.Inputs.{one, one_input, covers, concludes, concluded, result}
use Rattle.lists.proofs.Every.{every}
use Rattle.series.specs.Horner.{horner, hornerℚ}
use Rattle.math.specs.Formulas.{clamp_of}
use Rattle.floor.specs.Formula.{floor_of, fract_of}
use Rattle.exp2.specs.Formula.{exp2_scale, exp2_coefficients, exp2_within, exp2_of}
use Rattle.log2.specs.Formula.{log2_coefficients, log2_series, log2_mantissa, log2_bits, log2_of}
use Rattle.series.specs.Terms.{terms}
use Rattle.exp2.specs.Exact.{exp2ℚ}
use Rattle.log2.specs.Exact.{log2ℚ, log2_over, log2_at, log2_mantissaℚ, log2_seriesℚ, log2_terms, log2_term, exponent_of}
use Rattle.exp2.proofs.Exp2Error.{power_bound, NearPower, exp2_approximates}
use Rattle.exp2.proofs.ExactExp2.{exp2_near}
use Rattle.log2.proofs.ExactLog2.{log2_near}
use Rattle.log2.proofs.Log2Error.{log_bound, log2_approximates}
use Rattle.filter.specs.Formula.{thirty₃₂, log_of}
use Rattle.filter.specs.Exact.{logℚ}
use Rattle.filter.proofs.Exchange.{exchange, quanta, lower_fraction, upper_fraction, exact_nonnegative}
use Rattle.filter.proofs.Exponent.{squared_bound}

-- ---- 1 ⊕ y is at least 1 for a y that is not negative, since rounding is monotone
from_one : (y : Float) → T (fits binary32 y) → T (finite y) → whole (pos 0) ≤ℚ value y → T (finite (one₃₂ ⊕ y)) → ratio 1 1 ≤ℚ value (one₃₂ ⊕ y)
unfolding value of_bits round
from_one y f t h u =
    let w = in_format binary32 y f t in
    let G = w.significand * 2 ^ w.shift in
    let s = add_is binary32 one₃₂ y (2 ^ 149) 0 G 0 refl (nonnegative_quanta binary32 y w h) in
    let r = s.rounded in
    (le_value one₃₂ (one₃₂ ⊕ y) tt u).0
    (subst (λ (z : Float). T (le one₃₂ z)) (sym r.is) (go r.sign r.size s.over G s.over_pos r.val))
  where
    at_least : (k c U G : ℕ) → 0 < U → k * U + (0 + 0) * c ≡ (U + G) * c → 1 * c ≤ k * 1
    at_least k c U G p e = le_of_mul-le-mul_right (omega arith) p

    none : (k c U G : ℕ) → 0 < U → 0 < c → k * U + (U + G) * c ≡ (0 + 0) * c → ⊥
    none k c U G p q e = omega (arith, mul-pos p q)

    go : (sign : Bool) (k c G : ℕ) → 0 < c → Signed sign k c (2 ^ 149 + G) (0 + 0) (2 ^ 149) → T (le one₃₂ (round binary32 sign k c))
    go false k c G p e = round_mono binary32 1 1 k c (lit< tt) p (at_least k c (2 ^ 149) G (pow_pos 149) e)
    go true k c G p e = absurd (none k c (2 ^ 149) G (pow_pos 149) p e)

one_at_most : (E : Fraction) → whole (pos 0) ≤ℚ E → ratio 1 1 ≤ℚ ratio 1 1 +ℚ E
one_at_most E h =
    let X = ratio 1 1 +ℚ E in
    parts-≤ℚ (ratio 1 1) X (core (num⁺ E) (num⁻ E) E.den (num⁺ X) (num⁻ X) (sum_parts (ratio 1 1) E) (≤ℚ-parts (whole (pos 0)) E h))
  where
    core : (P N D S R : ℕ) → S + (0 * D + N * 1) ≡ R + (1 * D + P * 1) → 0 * D + N * 1 ≤ P * 1 + 0 * D → 1 * (1 * D) + R * 1 ≤ S * 1 + 0 * (1 * D)
    core P N D S R e h = omega arith

-- ---- s FROM -25 TO 25, and so neither the clamp of exp2 nor the branch above 30 meets it
record Exponent (s : Float) (S : Fraction) : Type 0 where
  near : Within (value s) S (ratio 68 (2 ^ 24))
  number : T (finite s)
  least : whole (negsuc 24) ≤ℚ value s
  most : value s ≤ℚ whole (pos 25)

exponent : (s : Float) (S : Fraction) → Approximates binary32 s S squared_bound → Exponent s S
unfolding squared_bound
exponent s S h =
    let q = ratio 68 (2 ^ 24) in
    let lo = quanta (2 ^ 149) (negsuc (24 * 2 ^ 149 - 1)) in
    let hi = quanta (2 ^ 149) (pos (24 * 2 ^ 149)) in
    let w = result binary32 s S squared_bound 68 (2 ^ 24) (lit< tt) h (lit≤ tt) in
    let from = ≤ℚ-trans (whole (negsuc 24) +ℚ q) lo S (pow_pos 149) (le_z_yes tt) (lower_fraction (2 ^ 149) S (negsuc (24 * 2 ^ 149 - 1)) h.lower) in
    record {
      near = w;
      number = (value_defined s).0 w.left;
      least = ≤ℚ-trans (whole (negsuc 24)) (S -ℚ q) (value s) (mul-pos w.right (pow_pos 24)) (at_least_minus S q (whole (negsuc 24)) (pow_pos 24) from) (minus_at_most S q (value s) (pow_pos 24) w.above);
      most =
          ≤ℚ-trans (value s) (hi +ℚ q) (whole (pos 25)) (mul-pos (pow_pos 149) (pow_pos 24))
          (sum_raise_left (value s) S hi q w.right w.below (upper_fraction (2 ^ 149) S (pos (24 * 2 ^ 149)) h.upper)) (le_z_yes tt);
    }

-- ---- AT WHOLE NUMBERS the distance is computed, whatever the branch: 1 + 2 ^ n is a number that can be written down
within : Fraction → Fraction → Bool
within a b = ltℚ (absℚ (a -ℚ b)) (ratio 669 (2 ^ 24))

at_whole : ℕ → Bool
at_whole n = within (value (log_of (of_int binary32 (pos n)))) (log2ℚ (ratio (2 ^ n + 1) 1))

log_at_wholes : T (every at_whole 25)
unfolding every at_whole within log_of log2_of log2_bits log2_mantissa log2_series log2_coefficients exp2_of exp2_within exp2_coefficients exp2_scale clamp_of fract_of floor_of horner hornerℚ log2_over log2_at log2_mantissaℚ log2_seriesℚ log2_terms log2_term exponent_of terms value lt of_bits to_bits of_int add sub mul div
log_at_wholes = tt

log_is : (s : Float) → T (finite s) → value s ≤ℚ whole (pos 25) → log_of s ≡ log2_of (one₃₂ ⊕ exp2_of s)
unfolding log_of value of_bits
log_is s t h = go (lt thirty₃₂ s) above
  where
    above : T (lt thirty₃₂ s) → ⊥
    above k = (≤ℚ-trans (value thirty₃₂) (value s) (whole (pos 25)) ((value_defined s).1 t) (lt_le (value thirty₃₂) (value s) (subst T (lt_value thirty₃₂ s tt t) k)) h).le

    go : (b : Bool) → (T b → ⊥) → cond b s (log2_of (one₃₂ ⊕ exp2_of s)) ≡ log2_of (one₃₂ ⊕ exp2_of s)
    go true k = absurd (k tt)
    go false k = refl

-- ---- THE SUM 1 ⊕ y, for a y near B, which is near E: within 151 * 2 ^ -24 of 1 + E, and from 1 to 2 ^ 27
sum : Expr
sum = plus (constant one₃₂) (var 0)

sum_bound : Bound
sum_bound = record { lo = pos (2 ^ 149); hi = pos (2 ^ 175 + 2 ^ 154); err = 2 ^ 155 }

sum_ok : T (concludes binary32 (one power_bound) sum sum_bound)
unfolding concludes analyse covers sum power_bound sum_bound one of_bits
sum_ok = tt

record Sum (x : Float) (X : Fraction) : Type 0 where
  number : T (finite x)
  near : RelativelyWithin (value x) X (ratio 151 (2 ^ 24))
  least : ratio 1 1 ≤ℚ value x
  most : value x ≤ℚ whole (pos (2 ^ 27))
  exact_least : ratio 1 1 ≤ℚ X

summed : (y : Float) (B E : Fraction) → T (fits binary32 y) → NearPower y B → RelativelyWithin B E (ratio 137 (2 ^ 24)) → Sum (one₃₂ ⊕ y) (ratio 1 1 +ℚ E)
unfolding power_bound sum sum_bound eval_float eval_exact plain one value of_bits fits
summed y B E f p q =
    let x = one₃₂ ⊕ y in
    let b : whole (pos 0) ≤ℚ B = ≤ℚ-trans (whole (pos 0)) (quanta (2 ^ 149) (pos 0)) B (pow_pos 149) (le_z_yes tt) (lower_fraction (2 ^ 149) B (pos 0) p.range.lower) in
    let e = exact_nonnegative B E 137 (2 ^ 24) (lit< tt) q b in
    let n : Approximates binary32 x (ratio 1 1 +ℚ B) sum_bound = concluded binary32 (one y) (one B) (one power_bound) (one_input binary32 y B power_bound p.range) sum (plainly binary32 (one B) sum tt) sum_bound sum_ok in
    let w = result binary32 x (ratio 1 1 +ℚ B) sum_bound 64 1 (lit< tt) n (lit≤ tt) in
    let t = (value_defined x).0 w.left in
    let hi = quanta (2 ^ 149) (pos (2 ^ 175 + 2 ^ 154)) in
    let r₁ = relative_chain 1 (2 ^ 24) 11 (2 ^ 24) (add_relative binary32 one₃₂ y tt f t) (relative_one_plus 11 (2 ^ 24) b p.relative) in
    let r₂ = relative_loosen (1 * 2 ^ 24 + 2 ^ 24 * 11 + 1 * 11) (2 ^ 24 * 2 ^ 24) 13 (2 ^ 24) (pow_pos 24) (lit≤ tt) r₁ in
    let r₃ = relative_chain 13 (2 ^ 24) 137 (2 ^ 24) r₂ (relative_one_plus 137 (2 ^ 24) e q) in
    record {
      number = t;
      near = relative_loosen (13 * 2 ^ 24 + 2 ^ 24 * 137 + 13 * 137) (2 ^ 24 * 2 ^ 24) 151 (2 ^ 24) (pow_pos 24) (lit≤ tt) r₃;
      least = from_one y f ((value_defined y).0 p.relative.left) (relative_nonnegative (value y) B 11 (2 ^ 24) (pow_pos 24) (lit≤ tt) p.relative b) t;
      most =
          ≤ℚ-trans (value x) (hi +ℚ ratio 64 1) (whole (pos (2 ^ 27))) (mul-pos (pow_pos 149) (zero-lt-suc 0))
          (sum_raise_left (value x) (ratio 1 1 +ℚ B) hi (ratio 64 1) w.right w.below (upper_fraction (2 ^ 149) (ratio 1 1 +ℚ B) (pos (2 ^ 175 + 2 ^ 154)) n.upper)) (le_z_yes tt);
      exact_least = one_at_most E e;
    }

-- ---- THE LOGARITHM: from -1 to 33 as the bounds see it, off by at most 669 * 2 ^ -24
unfoldable pub roll_off_bound : Bound
roll_off_bound = record { lo = negsuc (2 ^ 149 - 1); hi = pos (33 * 2 ^ 149); err = 669 * 2 ^ 125 }

exp2_fits : (x : Float) → T (fits binary32 (exp2_of x))
unfolding exp2_of exp2_within
exp2_fits x = let c = clamp_of (bits 0xc2fc_0000) (bits 0x42fe_0000) x in mul-fits binary32 (horner exp2_coefficients (fract_of c)) (exp2_scale c)

pub log_near : (s : Float) (S : Fraction) → T (fits binary32 s) → Approximates binary32 s S squared_bound → Approximates binary32 (log_of s) (logℚ S) roll_off_bound
unfolding logℚ log_bound roll_off_bound
log_near s S f h =
    let e = exponent s S h in
    let y = exp2_of s in
    let x = one₃₂ ⊕ y in
    let X = ratio 1 1 +ℚ exp2ℚ S in
    let u = summed y (exp2ℚ (value s)) (exp2ℚ S) (exp2_fits s) (exp2_approximates s f e.number e.least e.most) (exp2_near (value s) S 68 (lit≤ tt) e.near) in
    let l = log2_approximates x (add-fits binary32 one₃₂ y) u.number u.least u.most in
    let w = within_loosen {q = ratio (605 * 2 ^ 125) (2 ^ 149)} (log2_near (value x) X 151 (lit≤ tt) u.least u.exact_least u.near) (pow_pos 149) (le_z_yes tt) in
    rw (log_is s e.number e.most) (exchange binary32 (log2_of x) (log2ℚ (value x)) (log2ℚ X) log_bound roll_off_bound (605 * 2 ^ 125) l w (lit≤ tt) (lit≤ tt) (lit≤ tt))
