-- THE HEIGHT OF AN IMPULSE TRAIN IS WITHIN 1 / 262,144 OF ITS EXACT HEIGHT. A distance is rounded once, so that it is near in proportion to its size, and a tap reaches no
-- further than its tapWidth; the spike is then one analysis, and a maximum brings two numbers no further apart. Assumes nothing.
use mathlib.Core.Bool.{Bool, true, false, cond}
use Prim.Native.Nat.{ℕ, zero, suc, ◌+◌, ◌*◌, ◌^◌, ◌≤◌, ◌<◌}
use native.Mathlib.Nat.{mul-le-mul_right, le_of_mul-le-mul_right, le_refl, le_of_lt}
use native.Mathlib.Omega.{arith}
use lib.IntN.{pos, nat_abs}
use lib.Signed.{le_z_yes}
use lib.Dec.{T, lit<, lit≤}
use lib.Ieee.{Float, nan, inf, fin, binary32, of_bits, fits, lt}
use lib.Ieee.Fits.{sub-fits}
use lib.Ieee.Scale.{finite}
use Rattle.exact.specs.Fraction.{Fraction, Defined, ratio, absℚ, maxℚ, ◌+ℚ◌, ◌-ℚ◌, ◌*ℚ◌, ◌≤ℚ◌}
use Rattle.exact.specs.Value.{value, Equal, Within, RelativelyWithin}
use Rattle.exact.specs.Binary32.{◌⊖◌, one₃₂}
use Rattle.exact.proofs.Defined.{value_defined}
use Rattle.exact.proofs.Order.{parts-≤ℚ, ≤ℚ-trans, ≤-sum-parts, sum_raise_left, equal_sym, equal_refl, equal_within, within_equal_left, within_loosen, lt_at_most}
use Rattle.rounding.proofs.Relative.{relative_absolute}
use Rattle.rounding.proofs.UnitRoundoff.{sub_relative}
use Rattle.exact.proofs.Lipschitz.{abs_within, abs_value, max_within}
use Rattle.rounding.proofs.Bounds.{lower_at, upper_at}
use Rattle.rounding.proofs.FloatBounds.{within_near}
use Rattle.rounding.proofs.Analyser.{Approximates, plain, eval_float, eval_exact}
use Rattle.rounding.proofs.Soundness.{plainly}
use Rattle.rounding.proofs.Inputs.{two, two_inputs, bounded}
use Rattle.math.specs.Formulas.{abs_of, max_of}
use Rattle.curve.specs.Curve.{position_of, drawn_of, Drawn}
use Rattle.curve.proofs.Positions.{Level, position_level}
use Rattle.curve.proofs.Clamped.{drawn_near}
use Rattle.curve.proofs.LevelInput.{unit, level_input}
use Rattle.taps.specs.declared.Taps.{Taps}
use Rattle.taps.specs.Formula.{tap_width, used_of, at_of, tall_of, spike_of, tap_height_of, taps_level_of, taps_height_of}
use Rattle.taps.specs.Exact.{spikeℚ, tap_heightℚ, taps_levelℚ, taps_heightℚ}
use Rattle.taps.proofs.Ranges.{TapsRange}
use Rattle.taps.proofs.Maximum.{max_is}
use Rattle.taps.proofs.Spike.{distance, spike, spike_ok}
use Rattle.taps.proofs.EveryTaps.{level_number}

-- ---- THE SIZE of a float
abs_fits : (x : Float) → T (fits binary32 x) → T (fits binary32 (abs_of x))
unfolding abs_of fits
abs_fits nan f = f
abs_fits (inf s) f = f
abs_fits (fin s zero e) f = f
abs_fits (fin s (suc m) e) f = f

abs_finite : (x : Float) → T (finite x) → T (finite (abs_of x))
unfolding abs_of
abs_finite nan h = absurd h
abs_finite (inf s) h = absurd h
abs_finite (fin s m e) h = tt

abs_is : (x : Float) → T (finite x) → Equal (value (abs_of x)) (absℚ (value x))
unfolding abs_of
abs_is nan h = absurd h
abs_is (inf s) h = absurd h
abs_is (fin s m e) h = abs_value s m e

-- what is smaller in size than the tapWidth is a number
reached_finite : (x : Float) → T (lt (abs_of x) tap_width) → T (finite x)
unfolding abs_of lt of_bits
reached_finite nan h = absurd h
reached_finite (inf s) h = absurd h
reached_finite (fin s m e) h = tt

-- ---- THE DISTANCE: where its float is below the tapWidth it is at most 1 / 32, with an error of at most 2 ^ -29

-- n / d ≤ 1 / 64 + n / d / K
at_most_twice : (n d K : ℕ) → 0 < d → 2 ≤ K → n * (64 * (K * d)) ≤ (1 * (K * d) + 1 * n * 64) * d → n * 32 ≤ d
at_most_twice n d K D k h =
    let a : n * (64 * K) ≤ K * d + n * 64 = le_of_mul-le-mul_right (omega arith) D in
    let b : n * 32 * K ≤ d * K = omega (arith, mul-le-mul_right (n * 32) k) in
    let c : 0 < K = omega arith in
    le_of_mul-le-mul_right b c

short : (n d : ℕ) (e : Fraction) → 0 < d → Defined e → e ≤ℚ ratio 1 64 → ratio n d ≤ℚ e +ℚ ratio 1 (2 ^ 24) *ℚ ratio n d → ratio n d ≤ℚ ratio 1 32
short n d e D E l h =
    parts-≤ℚ (ratio n d) (ratio 1 32)
    (out (at_most_twice n d (2 ^ 24) D (lit≤ tt) (into (2 ^ 24) (≤-sum-parts (ratio n d) (ratio 1 64) (ratio 1 (2 ^ 24) *ℚ ratio n d) (sum_raise_left (ratio n d) e (ratio 1 64) (ratio 1 (2 ^ 24) *ℚ ratio n d) E h l)))))
  where
    into : (K : ℕ) → n * (64 * (K * d)) + (0 * (K * d) + 0 * 64) * d ≤ (1 * (K * d) + 1 * n * 64) * d + 0 * (64 * (K * d)) → n * (64 * (K * d)) ≤ (1 * (K * d) + 1 * n * 64) * d
    into K h = omega arith

    out : n * 32 ≤ d → n * 32 + 0 * d ≤ 1 * d + 0 * 32
    out h = omega arith

width_short : value tap_width ≤ℚ ratio 1 64
unfolding value of_bits
width_short = le_z_yes tt

distance_input : (p at : Float) → Level p → T (fits binary32 at) → T (finite at) → T (lt (abs_of (p ⊖ at)) tap_width) → Approximates binary32 (abs_of (p ⊖ at)) (absℚ (value p -ℚ value at)) distance
unfolding distance of_bits
distance_input p at h f t l =
    let s = p ⊖ at in
    let S = reached_finite s l in
    let D = absℚ (value p -ℚ value at) in
    let g = sub-fits binary32 p at in
    let r : RelativelyWithin (value (abs_of s)) D (ratio 1 (2 ^ 24)) = within_equal_left (equal_sym (abs_is s S)) (abs_within (sub_relative binary32 p at h.holds f S)) in
    let w = lt_at_most (abs_of s) tap_width (abs_finite s S) tt l in
    let k = short (nat_abs (value p -ℚ value at).num) D.den (value (abs_of s)) r.right w.left (≤ℚ-trans (value (abs_of s)) (value tap_width) (ratio 1 64) w.right w.le width_short) r.above in
    record {
      defined = r.right;
      near = within_near binary32 (abs_of s) D (2 ^ 120) (abs_fits s g) (within_loosen (relative_absolute (ratio 1 32) 1 (2 ^ 24) r (lit< tt) k) (lit< tt) (le_z_yes tt));
      lower = lower_at (2 ^ 149) D 0 1 0 (lit< tt) (lit≤ tt) (parts-≤ℚ (ratio 0 1) D (omega arith));
      upper = upper_at (2 ^ 149) D 1 32 (2 ^ 144) (lit< tt) (lit≤ tt) k;
    }

-- ---- THE SPIKE
spike_near : (p at tall : Float) → Level p → T (fits binary32 at) → T (finite at) → Level tall → T (lt (abs_of (p ⊖ at)) tap_width)
    → Within (value (spike_of tall (abs_of (p ⊖ at)))) (spikeℚ (value tall) (absℚ (value p -ℚ value at))) (ratio 1 262144)
unfolding spike two eval_float eval_exact plain value of_bits
spike_near p at tall h f t k l =
    let d = abs_of (p ⊖ at) in
    let D = absℚ (value p -ℚ value at) in
    bounded binary32 (two d tall) (two D (value tall)) (two distance unit) (two_inputs binary32 d tall D (value tall) distance unit (distance_input p at h f t l) (level_input tall k))
    spike (plainly binary32 (two D (value tall)) spike tt) 1 262144 (lit< tt) spike_ok

-- ---- THE MAXIMUM, one tap more at a time
tap_near : (at tall p x : Float) (X : Fraction) → Level p → T (fits binary32 at) → T (finite at) → Level tall → Within (value x) X (ratio 1 262144)
    → Within (value (tap_height_of at tall p x)) (tap_heightℚ at tall p X) (ratio 1 262144)
unfolding tap_height_of tap_heightℚ
tap_near at tall p x X h f t k w = go (lt (abs_of (p ⊖ at)) tap_width) (spike_near p at tall h f t k)
  where
    y : Float
    y = spike_of tall (abs_of (p ⊖ at))

    Y : Fraction
    Y = spikeℚ (value tall) (absℚ (value p -ℚ value at))

    go : (b : Bool) → (T b → Within (value y) Y (ratio 1 262144)) → Within (value (cond b (max_of x y) x)) (cond b (maxℚ X Y) X) (ratio 1 262144)
    go true n = let v = n tt in within_equal_left (equal_sym (max_is x y ((value_defined x).0 w.left) ((value_defined y).0 v.left))) (max_within w v)
    go false n = w

pub taps_level_near : (taps : Taps) → TapsRange taps → (p : Float) → Level p → (i : ℕ) → i ≤ used_of taps → Within (value (taps_level_of taps p i)) (taps_levelℚ taps p i) (ratio 1 262144)
unfolding taps_level_of taps_levelℚ value of_bits
taps_level_near taps r p h zero l = equal_within (equal_refl (lit< tt)) (lit< tt)
taps_level_near taps r p h (suc i) l =
    tap_near (at_of taps i) (tall_of taps i) p (taps_level_of taps p i) (taps_levelℚ taps p i) h (r.holds i l) (r.at i l) (r.tall i l) (taps_level_near taps r p h i (le_of_lt l))

-- ---- THE THEOREM
pub taps_drawn : (taps : Taps) → TapsRange taps → (t : Float) → T (fits binary32 t) → Drawn (taps_height_of taps t).height (taps_heightℚ taps t) (ratio 1 262144)
unfolding taps_height_of taps_heightℚ drawn_of
taps_drawn taps r t f =
    let p = position_of t in
    let n = used_of taps in
    drawn_near (taps_level_of taps p n) (taps_levelℚ taps p n) 1 262144 (level_number taps p n).holds (taps_level_near taps r p (position_level t f) n (le_refl n))
