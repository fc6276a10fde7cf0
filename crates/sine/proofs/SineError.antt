-- THE SINE'S HEIGHT 0.5 + 0.5 sin_turns, in binary32 through order 9, LIES WITHIN 1 / 262,144 OF THE EXACT ONE, through order 21, for every phase of a curve: every
-- finite phase from 0 up, and the walk's positions from -1 to 0, which are multiples of 2 ^ -24. `fract` and the folds are exact there (Fold.antt), so
-- both sides work on the same quarter turn; the series is one computed test of the analyser for each sign. Assumes nothing.
use mathlib.Core.Path.{◌≡◌, refl, subst₂}
use mathlib.Core.Bool.{Bool, true, false, cond}
use Prim.Native.Nat.{◌-◌, ◌*◌, ◌^◌}
use lib.IntN.{pos, negsuc}
use lib.Dec.{T, lit<, lit≤}
use lib.Ieee.{Float, binary32, of_bits, neg, fits}
use Rattle.exact.specs.Fraction.{Fraction, ratio, whole, ltℚ, ◌+ℚ◌, ◌*ℚ◌}
use Rattle.exact.specs.Value.{value, Within}
use Rattle.exact.specs.Binary32.{◌⊕◌, ◌⊗◌, bits, half₃₂, one₃₂}
use Rattle.exact.proofs.Defined.{choice_is}
use Rattle.rounding.proofs.Bounds.{lower_at, upper_at}
use Rattle.rounding.proofs.Analyser.{Bound, Expr, var, constant, approx, plus, times, Approximates, plain, eval_float, eval_exact, analyse, certified}
use Rattle.rounding.proofs.Soundness.{plainly}
use Rattle.rounding.proofs.Inputs.{one, one_input, exact_input, covers, concludes, concluded, bounded}
use Rattle.series.specs.Horner.{horner, hornerℚ}
use Rattle.floor.specs.Formula.{fract_of}
use Rattle.sine.specs.Formula.{sine_coefficients, sine_of_angle, sine_of_quarter, sine_of_cycle, sin_turns_of, half_of, quarter_of}
use Rattle.sine.specs.Exact.{turn, sine_term, sine_terms, sine_of_angleℚ, sine_of_quarterℚ, sine_of_cycleℚ, sin_turnsℚ, halfℚ, quarterℚ}
use Rattle.series.specs.Terms.{terms, factorial}
use Rattle.floor.specs.Exact.{fractℚ}
use Rattle.series.proofs.SeriesExpr.{polynomial, exactly, nearest_to}
use Rattle.floor.proofs.Turned.{Turned}
use Rattle.sine.proofs.Fold.{half_turn, quarter_turn, half_sign}
use Rattle.floor.proofs.Phase.{Phase, fract_turned}

-- ---- THE SERIES over a quarter turn, by the sign of the half turn
angle : Expr
angle = times (var 0) (approx (bits 0x40c9_0fdb) turn)

series : Bool → Expr
unfolding angle polynomial sine_coefficients sine_terms
series b = times (constant (cond b one₃₂ (neg one₃₂))) (times angle (polynomial sine_coefficients sine_terms (times angle angle)))

-- a quarter turn, from 0 to 1/4; and a sine, from -2 to 2 as intervals see it, off by at most 71 * 2 ^ -24
quarter_bound : Bound
quarter_bound = record { lo = pos 0; hi = pos (2 ^ 147); err = 0 }

unfoldable pub turns_bound : Bound
turns_bound = record { lo = negsuc (2 ^ 150 - 1); hi = pos (2 ^ 150); err = 71 * 2 ^ 125 }

series_ok : (b : Bool) → T (concludes binary32 (one quarter_bound) (series b) turns_bound)
unfolding concludes analyse covers quarter_bound turns_bound series angle polynomial exactly nearest_to sine_coefficients sine_terms terms sine_term factorial one of_bits neg
series_ok true = tt
series_ok false = tt

series_plain : (b : Bool) → T (plain (series b))
unfolding plain series angle polynomial exactly sine_coefficients sine_terms terms
series_plain b = tt

-- what the two evaluations of the expression are
runs : (b : Bool) (q : Float) → eval_float binary32 (one q) (series b) ≡ cond b one₃₂ (neg one₃₂) ⊗ sine_of_quarter q
unfolding eval_float series angle polynomial exactly one sine_of_quarter sine_of_angle horner sine_coefficients sine_terms terms
runs b q = refl

means : (b : Bool) (q : Fraction) → eval_exact (one q) (series b) ≡ cond b (whole (pos 1)) (whole (negsuc 0)) *ℚ sine_of_quarterℚ q
unfolding eval_exact series angle polynomial exactly one sine_of_quarterℚ sine_of_angleℚ hornerℚ sine_coefficients sine_terms terms value of_bits neg
means true q = refl
means false q = refl

quarter_near : (b : Bool) (q : Float) (Q : Fraction) → Turned q Q (ratio 1 4)
    → Approximates binary32 (cond b one₃₂ (neg one₃₂) ⊗ sine_of_quarter q) (cond b (whole (pos 1)) (whole (negsuc 0)) *ℚ sine_of_quarterℚ Q) turns_bound
unfolding quarter_bound
quarter_near b q Q h =
    let i = exact_input binary32 q Q (pos 0) (pos (2 ^ 147)) h.holds h.is (lower_at (2 ^ 149) Q 0 1 0 (lit< tt) (lit≤ tt) h.above) (upper_at (2 ^ 149) Q 1 4 (2 ^ 147) (lit< tt) (lit≤ tt) h.below) in
    subst₂ (λ (x : Float) (A : Fraction). Approximates binary32 x A turns_bound) (runs b q) (means b Q)
    (concluded binary32 (one q) (one Q) (one quarter_bound) (one_input binary32 q Q quarter_bound i) (series b) (plainly binary32 (one Q) (series b) (series_plain b)) turns_bound (series_ok b))

-- ---- A TURN: the fraction of a phase
turn_near : (c : Float) (C : Fraction) → Turned c C (ratio 1 1) → Approximates binary32 (sine_of_cycle c) (sine_of_cycleℚ C) turns_bound
unfolding sine_of_cycle sine_of_cycleℚ
turn_near c C h =
    rw (half_sign c C h, choice_is C (ratio 1 2) h.is.right (lit< tt) (whole (pos 1)) (whole (negsuc 0)))
    (quarter_near (ltℚ C (ratio 1 2)) (quarter_of (half_of c)) (quarterℚ (halfℚ C)) (quarter_turn (half_of c) (halfℚ C) (half_turn c C h)))

pub sin_turns_near : (x : Float) → T (fits binary32 x) → Phase x → Approximates binary32 (sin_turns_of x) (sin_turnsℚ (value x)) turns_bound
unfolding sin_turns_of sin_turnsℚ
sin_turns_near x f p = turn_near (fract_of x) (fractℚ (value x)) (fract_turned x f p)

-- ---- THE HEIGHT
height : Expr
height = plus (constant half₃₂) (times (constant half₃₂) (var 0))

height_ok : T (certified binary32 (one turns_bound) height 1 262144)
unfolding certified analyse height turns_bound one of_bits
height_ok = tt

pub sine_height_within : (x : Float) → T (fits binary32 x) → Phase x → Within (value (half₃₂ ⊕ half₃₂ ⊗ sin_turns_of x)) (ratio 1 2 +ℚ ratio 1 2 *ℚ sin_turnsℚ (value x)) (ratio 1 262144)
unfolding height one eval_float eval_exact plain value of_bits
sine_height_within x f p =
    let X = sin_turnsℚ (value x) in
    bounded binary32 (one (sin_turns_of x)) (one X) (one turns_bound) (one_input binary32 (sin_turns_of x) X turns_bound (sin_turns_near x f p)) height (plainly binary32 (one X) height tt) 1 262144 (lit< tt) height_ok
