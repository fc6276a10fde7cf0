-- THE BOUND OF EVERY SHAPE: for every phase of a curve its level in binary32 lies within 1 / 262,144 of the exact one; and drawn at a position of any f32 it is a
-- number from 0 to 1 that lies within that of the exact height. Not drawn, both levels lie from -2 ^ -18 to 1 + 2 ^ -18. Assumes nothing.
use Prim.Native.Nat.{ℕ, ◌+◌, ◌-◌, ◌*◌, ◌^◌, ◌≤◌, ◌<◌}
use native.Mathlib.Nat.{le_of_mul-le-mul_right}
use native.Mathlib.Omega.{arith}
use lib.IntN.{pos, negsuc}
use lib.Pow.{pow_pos}
use lib.Signed.{le_z_yes}
use lib.Dec.{T, lit<, lit≤}
use lib.Ieee.{Float, binary32, of_bits, fits}
use lib.Ieee.Fits.{add-fits, sub-fits}
use Rattle.exact.specs.Fraction.{Fraction, ratio, negℚ, clamp_unitℚ, ◌+ℚ◌, ◌-ℚ◌, ◌≤ℚ◌}
use Rattle.exact.specs.Value.{value, Within}
use Rattle.exact.specs.Binary32.{◌⊗◌}
use Rattle.exact.proofs.Parts.{num⁺, num⁻}
use Rattle.exact.proofs.Order.{≤ℚ-trans, parts-≤ℚ, sum_raise_left}
use Rattle.exact.proofs.Inequality.{minus_at_most}
use Rattle.rounding.proofs.Analyser.{Approximates, Lower, Upper, plain, eval_float, eval_exact}
use Rattle.rounding.proofs.Soundness.{plainly}
use Rattle.rounding.proofs.Inputs.{one, one_input, concluded, relax, result}
use Rattle.curve.specs.Curve.{position_of, drawn_of, Drawn}
use Rattle.curve.proofs.Clamped.{drawn_near}
use Rattle.sine.specs.Formula.{sin_turns_of}
use Rattle.sine.specs.Exact.{sin_turnsℚ}
use Rattle.floor.proofs.Phase.{Phase}
use Rattle.sine.proofs.SineEnclosure.{sine_bound, sine_enclosed}
use Rattle.settings.specs.declared.LfoShape.{LfoShape}
use Rattle.settings.specs.declared.LfoShape.TheVariants.{Sine, Triangle, Square, RampUp, RampDown, SampleAndHold, SampleAndGlide}
use Rattle.settings.specs.declared.SampledTurns.{SampledTurns}
use Rattle.settings.specs.declared.SampledTurns.TheVariants.{Six, Eight}
use Rattle.settings.specs.Settings.{turns_number, turns_of}
use Rattle.lfo_shapes.specs.Formula.{sine_of, ramp_up_of, ramp_down_of, glide_of, shape_at_of}
use Rattle.lfo_shapes.specs.Exact.{sineℚ, ramp_downℚ, glideℚ, shapeℚ}
use Rattle.lfo_shapes.proofs.Wrapped.{wrap_fits}
use Rattle.lfo_shapes.proofs.Mix.{blend_bound}
use Rattle.lfo_shapes.proofs.Bounded.{shape_bound, blend_covers, triangle_fits, square_fits, sampled_fits, triangle_bounded, square_bounded, ramp_up_bounded, ramp_down_bounded, hold_bounded, glide_bounded}
use Rattle.lfo_shapes.proofs.Wave.{wave, wave_ok}
use Rattle.lfo_shapes.proofs.DrawnPhase.{Spanned, position_spanned, spanned_phase}

-- what a shape asks of a phase besides: of the glide's at most 2 ^ 24, since above that p ⊖ 1 may be p
abbrev pub Reached : LfoShape → Float → Type 0
Reached Sine p = Unit {0}
Reached Triangle p = Unit {0}
Reached Square p = Unit {0}
Reached RampUp p = Unit {0}
Reached RampDown p = Unit {0}
Reached SampleAndHold p = Unit {0}
Reached SampleAndGlide p = value p ≤ℚ ratio 16777216 1

-- ---- SINE, of what `sin_turns` gives
pub sine_bounded : (p : Float) → T (fits binary32 p) → Phase p → Approximates binary32 (sine_of p) (sineℚ (value p)) shape_bound
unfolding sine_of wave one eval_float eval_exact plain value of_bits
sine_bounded p f h =
    let S = sin_turnsℚ (value p) in
    concluded binary32 (one (sin_turns_of p)) (one S) (one sine_bound) (one_input binary32 (sin_turns_of p) S sine_bound (sine_enclosed p f h)) wave (plainly binary32 (one S) wave tt) shape_bound wave_ok

-- ---- EVERY SHAPE: its exact level is at most 27 * 2 ^ -24 beyond 0 and 1, and the level in binary32 at most 37 * 2 ^ -24 from it

wider : (x : Float) (A : Fraction) → Approximates binary32 x A blend_bound → Approximates binary32 x A shape_bound
wider x A h = relax binary32 x A blend_bound shape_bound h blend_covers

pub shape_bounded : (s : LfoShape) (p : Float) → T (fits binary32 p) → Phase p → Reached s p → Approximates binary32 (shape_at_of s p) (shapeℚ s (value p)) shape_bound
unfolding shape_at_of shapeℚ
shape_bounded Sine p f h r = sine_bounded p f h
shape_bounded Triangle p f h r = triangle_bounded p f h
shape_bounded Square p f h r = square_bounded p f h
shape_bounded RampUp p f h r = ramp_up_bounded p f h
shape_bounded RampDown p f h r = wider (ramp_down_of p) (ramp_downℚ (value p)) (ramp_down_bounded p f h)
shape_bounded SampleAndHold p f h r = hold_bounded p f h
shape_bounded SampleAndGlide p f h r = wider (glide_of p) (glideℚ (value p)) (glide_bounded p f h r)

-- THE DISTANCE
pub shape_near : (s : LfoShape) (p : Float) → T (fits binary32 p) → Phase p → Reached s p → Within (value (shape_at_of s p)) (shapeℚ s (value p)) (ratio 1 262144)
unfolding shape_bound
shape_near s p f h r = result binary32 (shape_at_of s p) (shapeℚ s (value p)) shape_bound 1 262144 (lit< tt) (shape_bounded s p f h r) (lit≤ tt)

-- THE RANGE: from -2 ^ -18 to 1 + 2 ^ -18
pub record InRange (A : Fraction) : Type 0 where
  pub from : negℚ (ratio 1 262144) ≤ℚ A
  pub to : A ≤ℚ ratio 262145 262144

-- of the exact level
exact_least : (A : Fraction) → Lower (2 ^ 149) A (negsuc (27 * 2 ^ 125 - 1)) → negℚ (ratio 27 16777216) ≤ℚ A
exact_least A h = parts-≤ℚ (negℚ (ratio 27 16777216)) A (go (2 ^ 125) (num⁺ A) (num⁻ A) A.den (pow_pos 125) h)
  where
    go : (u P N D : ℕ) → 0 < u → 0 * D + N * (16777216 * u) ≤ P * (16777216 * u) + 27 * u * D → 0 * D + N * 16777216 ≤ P * 16777216 + 27 * D
    go u P N D U h = le_of_mul-le-mul_right (omega arith) U

exact_most : (A : Fraction) → Upper (2 ^ 149) A (pos (2 ^ 149 + 27 * 2 ^ 125)) → A ≤ℚ ratio 16777243 16777216
exact_most A h = parts-≤ℚ A (ratio 16777243 16777216) (go (2 ^ 125) (num⁺ A) (num⁻ A) A.den (pow_pos 125) h)
  where
    go : (u P N D : ℕ) → 0 < u → P * (16777216 * u) + 0 * D ≤ (16777216 * u + 27 * u) * D + N * (16777216 * u) → P * 16777216 + 0 * D ≤ 16777243 * D + N * 16777216
    go u P N D U h = le_of_mul-le-mul_right (omega arith) U

pub bounded_range : (x : Float) (A : Fraction) → Approximates binary32 x A shape_bound → InRange (value x) × InRange A
unfolding shape_bound
bounded_range x A h =
    let w = result binary32 x A shape_bound 37 16777216 (lit< tt) h (lit≤ tt) in
    let l = exact_least A h.lower in
    let u = exact_most A h.upper in
    let q = ratio 37 16777216 in
    let r = minus_at_most (negℚ (ratio 27 16777216)) q (value x) (lit< tt) (≤ℚ-trans (negℚ (ratio 27 16777216)) A (value x +ℚ q) w.right l w.above) in
    let v = sum_raise_left (value x) A (ratio 16777243 16777216) q w.right w.below u in (
      record {
        from = ≤ℚ-trans (negℚ (ratio 1 262144)) (negℚ (ratio 27 16777216) -ℚ q) (value x) (lit< tt) (le_z_yes tt) r;
        to = ≤ℚ-trans (value x) (ratio 16777243 16777216 +ℚ q) (ratio 262145 262144) (lit< tt) v (le_z_yes tt);
      },
      record {
        from = ≤ℚ-trans (negℚ (ratio 1 262144)) (negℚ (ratio 27 16777216)) A (lit< tt) (le_z_yes tt) l;
        to = ≤ℚ-trans A (ratio 16777243 16777216) (ratio 262145 262144) (lit< tt) u (le_z_yes tt);
      },
    )

pub shape_range : (s : LfoShape) (p : Float) → T (fits binary32 p) → Phase p → Reached s p → InRange (value (shape_at_of s p)) × InRange (shapeℚ s (value p))
shape_range s p f h r = bounded_range (shape_at_of s p) (shapeℚ s (value p)) (shape_bounded s p f h r)

-- each level is a float of the format
pub shape_fits : (s : LfoShape) (p : Float) → T (fits binary32 (shape_at_of s p))
unfolding shape_at_of sine_of ramp_up_of ramp_down_of glide_of
shape_fits Sine p = add-fits binary32 _ _
shape_fits Triangle p = triangle_fits p
shape_fits Square p = square_fits p
shape_fits RampUp p = wrap_fits p
shape_fits RampDown p = sub-fits binary32 _ _
shape_fits SampleAndHold p = sampled_fits p
shape_fits SampleAndGlide p = add-fits binary32 _ _

-- ---- DRAWN, at a position from 0 to 1
-- n turns are few
few_turns : (n : SampledTurns) → ratio (turns_number n) 1 ≤ℚ ratio 16777216 1
few_turns Six = le_z_yes tt
few_turns Eight = le_z_yes tt

reached : {n : SampledTurns} (s : LfoShape) {p : Float} → Spanned n p → Reached s p
reached Sine h = tt
reached Triangle h = tt
reached Square h = tt
reached RampUp h = tt
reached RampDown h = tt
reached SampleAndHold h = tt
reached {n} SampleAndGlide {p} h = ≤ℚ-trans (value p) (ratio (turns_number n) 1) (ratio 16777216 1) (lit< tt) h.to (few_turns n)

pub shape_drawn : (n : SampledTurns) (s : LfoShape) (t : Float) → T (fits binary32 t)
    → Drawn (drawn_of (shape_at_of s (position_of t ⊗ turns_of n s))).height (clamp_unitℚ (shapeℚ s (value (position_of t ⊗ turns_of n s)))) (ratio 1 262144)
shape_drawn n s t f =
    let p = position_of t ⊗ turns_of n s in
    let w = position_spanned n s t f in
    let h = spanned_phase w in
    drawn_near (shape_at_of s p) (shapeℚ s (value p)) 1 262144 (shape_fits s p) (shape_near s p w.holds h (reached s w))
