-- THE BEND u / (u + k (1 - u)), in binary32, IS WITHIN 66 * 2 ^ -24 OF THE EXACT ONE, for a u from 0 to 1 that is off by at most 4 * 2 ^ -24 and a k from 1/4 to 4.
-- What intervals cannot see, since u stands in it twice: the denominator is at least the smaller of 1 and k, and at least u, so that the quotient is at most 1. So the
-- rounded denominator is above 0, and the branch that returns u is never taken. k from 1/4 to 1 and k from 1 to 4 are analysed apart. Assumes nothing.
use mathlib.Core.Path.{◌≡◌, ap}
use mathlib.Core.Bool.{Bool, true, false, not, cond}
use Prim.Native.Nat.{ℕ, ◌+◌, ◌-◌, ◌*◌, ◌^◌, ◌≤◌, ◌<◌}
use native.Mathlib.Nat.{mul-pos, mul-le-mul_right, lt_of_mul-lt-mul_right, add-sub_of_le}
use native.Mathlib.Omega.{arith}
use lib.IntN.{pos}
use lib.Dec.{T, lit<, lit≤}
use lib.Ieee.{Float, binary32, of_bits, fits, le, lt}
use lib.Ieee.Fits.{div-fits, cond-fits}
use lib.Ieee.Scale.{finite}
use Rattle.exact.specs.Fraction.{Fraction, Defined, ratio, whole, clamp_unitℚ, ◌-ℚ◌, ◌*ℚ◌, ◌/ℚ◌, ◌≤ℚ◌}
use Rattle.exact.specs.Value.{value}
use Rattle.exact.specs.Binary32.{◌⊘◌, bits, zero₃₂, quarter₃₂, one₃₂}
use Rattle.exact.proofs.Close.{ring}
use Rattle.exact.proofs.Parts.{num⁺, num⁻, mul⁺, mul⁻, sum_parts, difference_parts}
use Rattle.exact.proofs.Order.{≤ℚ-parts, parts-≤ℚ, ≤ℚ-trans, le_value, between_finite, lt_at_most, nlt_at_most}
use Rattle.rounding.proofs.Quanta.{quanta_defined}
use Rattle.exact.proofs.Lipschitz.{unit_at_most_one, zero_at_most_unit}
use Rattle.rounding.proofs.Bounds.{lower_at, upper_at}
use Rattle.rounding.proofs.Analyser.{Bound, Expr, var, constant, plus, minus, times, quotient, clamped, Approximates, Lower, constant_of, analyse, plain, eval_float, eval_exact, Facts}
use Rattle.rounding.proofs.Soundness.{plainly}
use Rattle.rounding.proofs.Inputs.{range, input, one, one_input, two, two_inputs, covers, concludes, concluded}
use Rattle.math.specs.Formulas.{clamp_of}
use Rattle.curve.specs.Curve.{clamp_unit_of}
use Rattle.settings.proofs.Ranges.{BendRange}
use Rattle.envelope.specs.Formula.{denominator_of, bent_unit, bent_of}
use Rattle.envelope.specs.Exact.{denominatorℚ, bentℚ}
use Rattle.rounding.proofs.Signs.{Positive, parts_positive, nonnegative, quotient_nonnegative, quotient_at_most_one}
use Rattle.rounding.proofs.FloatBounds.{near_positive, positive_test}
use Rattle.envelope.proofs.DivideError.{divide_bound, unit_fits}

-- ---- THE EXACT DENOMINATOR u + k (1 - u), u = p / d from 0 to 1 and k = q / c not negative: with y = d - p it is (p c + q y) d / (d c d)
record Denominator (p d q c P N D : ℕ) : Type 0 where
  rest : ℕ
  split : p + rest ≡ d
  is : P ≡ N + (p * c + q * rest) * d
  den : D ≡ d * (c * d)

denominator_is : (u k : Fraction) → ratio 0 1 ≤ℚ u → u ≤ℚ ratio 1 1 → ratio 0 1 ≤ℚ k → Denominator (num⁺ u) u.den (num⁺ k) k.den (num⁺ (denominatorℚ u k)) (num⁻ (denominatorℚ u k)) (denominatorℚ u k).den
unfolding denominatorℚ
denominator_is u k lo hi kp =
    let v = whole (pos 1) -ℚ u in
    let w = k *ℚ v in
    let p = num⁺ u in
    let d = u.den in
    let r : p + (d - p) ≡ d = add-sub_of_le (below p (num⁻ u) d (nonnegative u lo) (≤ℚ-parts u (ratio 1 1) hi)) in
    record {
      rest = d - p;
      split = r;
      is =
          total p (num⁻ u) d (num⁺ k) (num⁻ k) k.den (d - p) (num⁺ v) (num⁻ v) (num⁺ w) (num⁻ w) (num⁺ (denominatorℚ u k)) (num⁻ (denominatorℚ u k)) (nonnegative u lo) (nonnegative k kp) r
          (difference_parts (whole (pos 1)) u) (mul⁺ k.num v.num) (mul⁻ k.num v.num) (sum_parts u w);
      den = flat d k.den;
    }
  where
    below : (p n d : ℕ) → n ≡ 0 → p * 1 + 0 * d ≤ 1 * d + n * 1 → p ≤ d
    below p n d e h = omega arith

    flat : (d c : ℕ) → d * (c * (1 * d)) ≡ d * (c * d)
    flat d c = omega arith

    total : (p n d q m c y R L W W' P N : ℕ) → n ≡ 0 → m ≡ 0 → p + y ≡ d → R + (0 * d + p * 1) ≡ L + (1 * d + n * 1) → W ≡ q * R + m * L → W' ≡ q * L + m * R
        → P + (n * (c * (1 * d)) + W' * d) ≡ N + (p * (c * (1 * d)) + W * d) → P ≡ N + (p * c + q * y) * d
    total p n d q m c y R L W W' P N en em r i a b s = finish (product (ap (λ (x : ℕ). q * x) (unfolded i)) (ap (λ (x : ℕ). x * L) em) (ap (λ (x : ℕ). x * R) em))
      where
        unfolded : R + (0 * d + p * 1) ≡ L + (1 * d + n * 1) → R ≡ L + y
        unfolded i = omega arith

        product : q * R ≡ q * (L + y) → m * L ≡ 0 * L → m * R ≡ 0 * R → W ≡ W' + q * y
        product e f g = omega arith

        finish : W ≡ W' + q * y → P ≡ N + (p * c + q * y) * d
        finish e = omega (arith, ap (λ (x : ℕ). x * d) e, ap (λ (x : ℕ). x * (c * d)) en)

-- at least n / e, where k and 1 are
denominator_least : (u k : Fraction) (n e : ℕ) → ratio 0 1 ≤ℚ u → u ≤ℚ ratio 1 1 → ratio 0 1 ≤ℚ k → n ≤ e → ratio n e ≤ℚ k → ratio n e ≤ℚ denominatorℚ u k
denominator_least u k n e lo hi kp l h =
    let w = denominator_is u k lo hi kp in
    parts-≤ℚ (ratio n e) (denominatorℚ u k)
    (core (num⁺ u) u.den (num⁺ k) (num⁻ k) k.den w.rest (num⁺ (denominatorℚ u k)) (num⁻ (denominatorℚ u k)) (denominatorℚ u k).den (nonnegative k kp) w.split w.is w.den (≤ℚ-parts (ratio n e) k h))
  where
    core : (p d q m c y P N D : ℕ) → m ≡ 0 → p + y ≡ d → P ≡ N + (p * c + q * y) * d → D ≡ d * (c * d) → n * c + m * e ≤ q * e + 0 * c → n * D + N * e ≤ P * e + 0 * D
    core p d q m c y P N D z s i j h =
        simp ring
        (omega (
          arith,
          simp ring at (ap (λ (x : ℕ). x * e) i),
          simp ring at (ap (λ (x : ℕ). n * x) j),
          simp ring at (ap (λ (x : ℕ). x * (n * c * d)) s),
          simp ring at (mul-le-mul_right (p * c * d) l),
          simp ring at (mul-le-mul_right (y * d) (without h)),
        ))
      where
        without : n * c + m * e ≤ q * e + 0 * c → n * c ≤ q * e
        without h = omega arith

-- and at least u
denominator_above : (u k : Fraction) → ratio 0 1 ≤ℚ u → u ≤ℚ ratio 1 1 → ratio 0 1 ≤ℚ k → u ≤ℚ denominatorℚ u k
denominator_above u k lo hi kp =
    let w = denominator_is u k lo hi kp in
    parts-≤ℚ u (denominatorℚ u k)
    (core (num⁺ u) (num⁻ u) u.den (num⁺ k) k.den w.rest (num⁺ (denominatorℚ u k)) (num⁻ (denominatorℚ u k)) (denominatorℚ u k).den w.is w.den)
  where
    core : (p n d q c y P N D : ℕ) → P ≡ N + (p * c + q * y) * d → D ≡ d * (c * d) → p * D + N * d ≤ P * d + n * D
    core p n d q c y P N D i j = simp ring (omega (arith, simp ring at (ap (λ (x : ℕ). x * d) i), simp ring at (ap (λ (x : ℕ). p * x) j)))

-- ---- k FROM 1/4 TO 1, AND FROM 1 TO 4
least : Bool → Float
least b = cond b quarter₃₂ one₃₂

most : Bool → Float
most b = cond b one₃₂ (bits 0x4080_0000)

record Half (b : Bool) (k : Float) : Type 0 where
  holds : T (fits binary32 k)
  from : T (le (least b) k)
  to : T (le k (most b))

bend_bound : Bool → Bound
unfolding range least most
bend_bound b = range binary32 (least b) (most b)

bend_input : (b : Bool) (k : Float) → Half b k → Approximates binary32 k (value k) (bend_bound b)
unfolding bend_bound constant_of of_bits least most
bend_input true k h = input binary32 k quarter₃₂ one₃₂ h.holds tt tt h.from h.to
bend_input false k h = input binary32 k one₃₂ (bits 0x4080_0000) h.holds tt tt h.from h.to

-- the denominator, as intervals see it and with its own least value
denominator : Expr
denominator = plus (var 0) (times (var 1) (minus (constant one₃₂) (var 0)))

seen : Bool → Bound
seen b = record { lo = pos 0; hi = pos (5 * 2 ^ 149); err = cond b 12 32 * 2 ^ 125 }

denominator_bound : Bool → Bound
denominator_bound b = record { lo = pos (cond b (2 ^ 147) (2 ^ 149)); hi = pos (5 * 2 ^ 149); err = cond b 12 32 * 2 ^ 125 }

denominator_ok : (b : Bool) → T (concludes binary32 (two divide_bound (bend_bound b)) denominator (seen b))
unfolding concludes analyse covers denominator divide_bound bend_bound range least most seen two of_bits
denominator_ok true = tt
denominator_ok false = tt

-- the quotient, from 0 to 1
bend : Expr
bend = quotient (pos 0) (pos (2 ^ 149)) (var 0) (var 1)

unfoldable pub bent_bound : Bound
bent_bound = record { lo = pos 0; hi = pos (2 ^ 149); err = 66 * 2 ^ 125 }

bend_ok : (b : Bool) → T (concludes binary32 (two divide_bound (denominator_bound b)) bend bent_bound)
unfolding concludes analyse covers bend divide_bound denominator_bound bent_bound two
bend_ok true = tt
bend_ok false = tt

clamp_ok : T (concludes binary32 (one divide_bound) (clamped (var 0)) divide_bound)
unfolding concludes analyse covers divide_bound one
clamp_ok = tt

-- ---- THE BEND OF A u FROM 0 TO 1
least_value : (b : Bool) (k : Float) → Half b k → ratio 1 (cond b 4 1) ≤ℚ value k
unfolding value of_bits least most
least_value true k h = (le_value quarter₃₂ k tt (between_finite quarter₃₂ k one₃₂ tt tt h.from h.to)).0 h.from
least_value false k h = (le_value one₃₂ k tt (between_finite one₃₂ k (bits 0x4080_0000) tt tt h.from h.to)).0 h.from

not_negative : (b : Bool) (k : Fraction) → ratio 1 (cond b 4 1) ≤ℚ k → ratio 0 1 ≤ℚ k
not_negative true k h = ≤ℚ-trans (ratio 0 1) (ratio 1 4) k (lit< tt) (parts-≤ℚ (ratio 0 1) (ratio 1 4) (lit≤ tt)) h
not_negative false k h = ≤ℚ-trans (ratio 0 1) (ratio 1 1) k (lit< tt) (parts-≤ℚ (ratio 0 1) (ratio 1 1) (lit≤ tt)) h

denominator_lower : (b : Bool) (u k : Fraction) → ratio 0 1 ≤ℚ u → u ≤ℚ ratio 1 1 → ratio 1 (cond b 4 1) ≤ℚ k → Lower (2 ^ 149) (denominatorℚ u k) (denominator_bound b).lo
unfolding denominator_bound
denominator_lower true u k lo hi h = lower_at (2 ^ 149) (denominatorℚ u k) 1 4 (2 ^ 147) (lit< tt) (lit≤ tt) (denominator_least u k 1 4 lo hi (not_negative true k h) (lit≤ tt) h)
denominator_lower false u k lo hi h = lower_at (2 ^ 149) (denominatorℚ u k) 1 1 (2 ^ 149) (lit< tt) (lit≤ tt) (denominator_least u k 1 1 lo hi (not_negative false k h) (lit≤ tt) h)

denominator_near : (b : Bool) (u k : Float) (X : Fraction) → Approximates binary32 u X divide_bound → ratio 0 1 ≤ℚ X → X ≤ℚ ratio 1 1 → Half b k
    → Approximates binary32 (denominator_of u k) (denominatorℚ X (value k)) (denominator_bound b)
unfolding denominator_of denominatorℚ denominator two eval_float eval_exact plain seen denominator_bound value of_bits
denominator_near b u k X h lo hi r =
    let s =
    concluded binary32 (two u k) (two X (value k)) (two divide_bound (bend_bound b)) (two_inputs binary32 u k X (value k) divide_bound (bend_bound b) h (bend_input b k r)) denominator
    (plainly binary32 (two X (value k)) denominator tt) (seen b) (denominator_ok b) in
    record { defined = s.defined; near = s.near; lower = denominator_lower b X (value k) lo hi (least_value b k r); upper = s.upper }

denominator_positive : (b : Bool) (d : Float) (D : Fraction) → Approximates binary32 d D (denominator_bound b) → Positive (value d)
unfolding denominator_bound
denominator_positive true d D h = near_positive binary32 d D (2 ^ 147) (12 * 2 ^ 125) h.defined (lit< tt) h.near h.lower
denominator_positive false d D h = near_positive binary32 d D (2 ^ 149) (32 * 2 ^ 125) h.defined (lit< tt) h.near h.lower

-- a number of at least some quanta is above 0
lower_positive : (b : Bool) (D : Fraction) → Defined D → Lower (2 ^ 149) D (denominator_bound b).lo → Positive D
unfolding denominator_bound
lower_positive b D d h = parts_positive D (core (cond b (2 ^ 147) (2 ^ 149)) (2 ^ 149) (num⁺ D) (num⁻ D) D.den (some b) d h)
  where
    some : (b : Bool) → 0 < cond b (2 ^ 147) (2 ^ 149)
    some true = lit< tt
    some false = lit< tt

    core : (l U P N E : ℕ) → 0 < l → 0 < E → l * E + N * U ≤ P * U + 0 * E → N < P
    core l U P N E o e h = lt_of_mul-lt-mul_right U (less (mul-pos o e))
      where
        less : 0 < l * E → N * U < P * U
        less i = omega arith

half_near : (b : Bool) (u k : Float) (X : Fraction) → Approximates binary32 u X divide_bound → ratio 0 1 ≤ℚ X → X ≤ℚ ratio 1 1 → Half b k
    → Approximates binary32 (bent_unit u k) (X /ℚ denominatorℚ X (value k)) bent_bound
unfolding bent_unit bend two eval_float eval_exact Facts
half_near b u k X h lo hi r =
    let d = denominator_of u k in
    let D = denominatorℚ X (value k) in
    let n = denominator_near b u k X h lo hi r in
    let p = denominator_positive b d D n in
    let P = lower_positive b D n.defined n.lower in
    rw (positive_test d (quanta_defined (2 ^ 149) d n.near.plus n.near.minus n.near.quanta) p)
    (concluded binary32 (two u d) (two X D) (two divide_bound (denominator_bound b)) (two_inputs binary32 u d X D divide_bound (denominator_bound b) h n) bend (
      (tt, tt),
      lower_at (2 ^ 149) (X /ℚ D) 0 1 0 (lit< tt) (lit≤ tt) (quotient_nonnegative X D n.defined P lo),
      upper_at (2 ^ 149) (X /ℚ D) 1 1 (2 ^ 149) (lit< tt) (lit≤ tt) (quotient_at_most_one X D n.defined P (denominator_above X (value k) lo hi (not_negative b (value k) (least_value b k r)))),
    ) bent_bound (bend_ok b))

-- ---- EVERY BEND
pub bent_near : (u k : Float) (X : Fraction) → Approximates binary32 u X divide_bound → BendRange k → Approximates binary32 (bent_of u k) (bentℚ X (value k)) bent_bound
unfolding bent_of bentℚ clamp_of one eval_float eval_exact plain of_bits least most
bent_near u k X h r =
    go (lt k one₃₂)
    (λ t. (le_value k one₃₂ f tt).1 (lt_at_most k one₃₂ f tt t).le)
    (λ t. (le_value one₃₂ k tt f).1 (nlt_at_most k one₃₂ f tt t).le)
  where
    f : T (finite k)
    f = between_finite quarter₃₂ k (bits 0x4080_0000) tt tt r.from r.to

    c : Approximates binary32 (clamp_unit_of u) (clamp_unitℚ X) divide_bound
    c = concluded binary32 (one u) (one X) (one divide_bound) (one_input binary32 u X divide_bound h) (clamped (var 0)) (plainly binary32 (one X) (clamped (var 0)) tt) divide_bound clamp_ok

    half : (b : Bool) → Half b k → Approximates binary32 (bent_unit (clamp_unit_of u) k) (clamp_unitℚ X /ℚ denominatorℚ (clamp_unitℚ X) (value k)) bent_bound
    half b i = half_near b (clamp_unit_of u) k (clamp_unitℚ X) c (zero_at_most_unit X h.defined).le (unit_at_most_one X h.defined).le i

    go : (b : Bool) → (T b → T (le k one₃₂)) → (T (not b) → T (le one₃₂ k)) → Approximates binary32 (bent_unit (clamp_unit_of u) k) (clamp_unitℚ X /ℚ denominatorℚ (clamp_unitℚ X) (value k)) bent_bound
    go true i j = half true (record { holds = r.holds; from = r.from; to = i tt })
    go false i j = half false (record { holds = r.holds; from = j tt; to = r.to })

pub bent_fits : (u k : Float) → T (fits binary32 u) → T (fits binary32 (bent_of u k))
unfolding bent_of bent_unit
bent_fits u k h =
    let v = clamp_unit_of u in
    let d = denominator_of v k in
    cond-fits binary32 (le d zero₃₂) v (v ⊘ d) (unit_fits u h) (div-fits binary32 v d)
