-- THE NOISE'S SCATTER IS A NUMBER FROM 0 TO 1 at every position: 89 t is a phase from 0 up, so the sine is a number, and at most 47/32 in size; raised by 1.5 it is
-- above 0, and `fract` of what is not negative lies from 0 to 1. Assumes nothing.
use mathlib.Core.Path.{◌≡◌, ap, subst}
use mathlib.Core.Bool.{true, false}
use Prim.Native.Nat.{ℕ, ◌+◌, ◌-◌, ◌*◌, ◌^◌, ◌≤◌, ◌<◌}
use native.Mathlib.Nat.{mul-pos, le_of_mul-le-mul_right}
use native.Mathlib.Omega.{arith}
use lib.IntN.{ℤ, pos}
use lib.Signed.{le_z_yes}
use lib.Dec.{T, lit<, lit≤}
use lib.Ieee.{Float, nan, inf, fin, binary32, up, down, of_bits, mul, round, fits}
use lib.Ieee.Fits.{mul-fits, down_pos}
use lib.Ieee.Order.{round_mono}
use lib.Ieee.Scale.{finite, round_same}
use Rattle.exact.specs.Fraction.{Fraction, ratio, whole, ◌≤ℚ◌}
use Rattle.exact.specs.Value.{value}
use Rattle.exact.specs.Binary32.{◌⊕◌, ◌⊗◌, bits, zero₃₂}
use Rattle.exact.proofs.Parts.{num⁺, num⁻, neg⁺, neg⁻}
use Rattle.exact.proofs.Order.{≤ℚ-parts, parts-≤ℚ, le_value}
use Rattle.rounding.proofs.Bounds.{lower_at, upper_at}
use Rattle.rounding.proofs.Analyser.{Bound, Expr, var, constant, plus, times, Approximates, plain, eval_float, eval_exact, analyse}
use Rattle.rounding.proofs.Soundness.{plainly}
use Rattle.rounding.proofs.Inputs.{range, one, one_input, exact_input, covers, concludes, concluded}
use Rattle.floor.specs.Formula.{fract_of}
use Rattle.sine.specs.Formula.{sin_turns_of}
use Rattle.floor.specs.Exact.{fractℚ}
use Rattle.floor.proofs.Phase.{Phase, from_zero, fract_turned}
use Rattle.rounding.proofs.OwnRange.{approximates_finite, own_range}
use Rattle.sine.proofs.SineEnclosure.{sine_range, sin_turns_range}
use Rattle.curve.proofs.Positions.{Level, level_finite}
use Rattle.noise.specs.Formula.{noise_at_of}
use Rattle.curve.proofs.LevelInput.{unit, level_input}

-- ---- a product with what has no sign keeps what is not negative so
unsigned : (a c : ℕ) → 0 < c → T (finite (round binary32 false a c)) → ratio 0 1 ≤ℚ value (round binary32 false a c)
unfolding round value
unsigned a c C t = (le_value (round binary32 false 0 1) (round binary32 false a c) tt t).0 (round_mono binary32 0 1 a c (lit< tt) C (nothing a c))
  where
    nothing : (a c : ℕ) → 0 * c ≤ a * 1
    nothing a c = omega arith

negative_zero : (m : ℕ) (e : ℤ) → whole (pos 0) ≤ℚ value (fin true m e) → m * up e ≡ 0
unfolding value
negative_zero m e h = omega (arith, ≤ℚ-parts (whole (pos 0)) (value (fin true m e)) h, neg⁺ (pos (m * up e)), neg⁻ (pos (m * up e)))

zero_product : (a c : ℕ) → 0 < c → a ≡ 0 → whole (pos 0) ≤ℚ value (round binary32 true a c)
unfolding round value
zero_product a c C e =
    subst (λ (x : Float). whole (pos 0) ≤ℚ value x) (round_same binary32 true 0 1 a c (lit< tt) C (omega arith)) (le_z_yes tt)

pub times_from_zero : (x : Float) (n : ℕ) (d : ℤ) → T (finite x) → whole (pos 0) ≤ℚ value x → T (finite (x ⊗ fin false n d)) → whole (pos 0) ≤ℚ value (x ⊗ fin false n d)
unfolding mul
times_from_zero nan n d f h t = absurd f
times_from_zero (inf s) n d f h t = absurd f
times_from_zero (fin false m e) n d f h t = unsigned (m * up e * (n * up d)) (down e * down d) (mul-pos (down_pos e) (down_pos d)) t
times_from_zero (fin true m e) n d f h t =
    zero_product (m * up e * (n * up d)) (down e * down d) (mul-pos (down_pos e) (down_pos d)) (omega (arith, ap (λ (z : ℕ). z * (n * up d)) (negative_zero m e h)))

-- ---- the phase: 89 t
turns : Expr
turns = times (var 0) (constant (bits 0x42b2_0000))

turns_bound : Bound
turns_bound = record { lo = pos 0; hi = pos (89 * 2 ^ 149); err = 2 ^ 131 }

turns_ok : T (concludes binary32 (one unit) turns turns_bound)
unfolding concludes analyse covers turns turns_bound unit range one of_bits
turns_ok = tt

turns_finite : (x : Float) → Level x → T (finite (x ⊗ bits 0x42b2_0000))
unfolding turns one eval_float plain
turns_finite x h =
    approximates_finite binary32 (x ⊗ bits 0x42b2_0000) (eval_exact (one (value x)) turns) turns_bound
    (concluded binary32 (one x) (one (value x)) (one unit) (one_input binary32 x (value x) unit (level_input x h)) turns (plainly binary32 (one (value x)) turns tt) turns_bound turns_ok)

phase : (x : Float) → Level x → Phase (x ⊗ bits 0x42b2_0000)
unfolding of_bits value
phase x h =
    let t = turns_finite x h in
    let f = level_finite x h in
    from_zero t (times_from_zero x 89 (pos 0) f ((le_value zero₃₂ x tt f).0 h.from) t)

-- ---- what `fract` is taken of: from 31 to 3,008
raised : Expr
raised = times (plus (var 0) (constant (bits 0x3fc0_0000))) (constant (bits 0x447d_4000))

raised_bound : Bound
raised_bound = record { lo = pos (31 * 2 ^ 149); hi = pos (3008 * 2 ^ 149); err = 2 ^ 140 }

raised_ok : T (concludes binary32 (one sine_range) raised raised_bound)
unfolding concludes analyse covers raised raised_bound sine_range one of_bits
raised_ok = tt

raised_near : (s : Float) → Approximates binary32 s (value s) sine_range → Approximates binary32 ((s ⊕ bits 0x3fc0_0000) ⊗ bits 0x447d_4000) (eval_exact (one (value s)) raised) raised_bound
unfolding raised one eval_float plain
raised_near s h = concluded binary32 (one s) (one (value s)) (one sine_range) (one_input binary32 s (value s) sine_range h) raised (plainly binary32 (one (value s)) raised tt) raised_bound raised_ok

-- a float that is more than its error above 0
raised_phase : (y : Float) (Y : Fraction) → T (fits binary32 y) → Approximates binary32 y Y raised_bound → Phase y
unfolding raised_bound
raised_phase y Y f h =
    let o = own_range binary32 y Y raised_bound f h in
    from_zero (approximates_finite binary32 y Y raised_bound h) (parts-≤ℚ (whole (pos 0)) (value y) (core (num⁺ (value y)) (num⁻ (value y)) (value y).den (31 * 2 ^ 149 - 2 ^ 140) (2 ^ 149) (lit< tt) o.lower))
  where
    core : (P N D l U : ℕ) → 0 < U → l * D + N * U ≤ P * U + 0 * D → 0 * D + N * 1 ≤ P * 1 + 0 * D
    core P N D l U u h = let k : N ≤ P = le_of_mul-le-mul_right (omega arith) u in omega arith

-- ---- THE RANGE
pub noise_input : (x : Float) → Level x → Approximates binary32 (noise_at_of x) (value (noise_at_of x)) unit
unfolding noise_at_of unit range of_bits
noise_input x h =
    let s = sin_turns_of (x ⊗ bits 0x42b2_0000) in
    let y = (s ⊕ bits 0x3fc0_0000) ⊗ bits 0x447d_4000 in
    let g = mul-fits binary32 (s ⊕ bits 0x3fc0_0000) (bits 0x447d_4000) in
    let a = raised_near s (sin_turns_range (x ⊗ bits 0x42b2_0000) (mul-fits binary32 x (bits 0x42b2_0000)) (phase x h)) in
    let c = fract_turned y g (raised_phase y (eval_exact (one (value s)) raised) g a) in
    own_range binary32 (fract_of y) (fractℚ (value y)) (record { lo = pos 0; hi = pos (2 ^ 149); err = 0 }) c.holds
    (exact_input binary32 (fract_of y) (fractℚ (value y)) (pos 0) (pos (2 ^ 149)) c.holds c.is (lower_at (2 ^ 149) (fractℚ (value y)) 0 1 0 (lit< tt) (lit≤ tt) c.above) (upper_at (2 ^ 149) (fractℚ (value y)) 1 1 (2 ^ 149) (lit< tt) (lit≤ tt) c.below))
