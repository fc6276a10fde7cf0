-- THE ENVELOPE'S HEIGHT IS A NUMBER FROM 0 TO 1, WITHIN 1 / 131,072 OF THE EXACT HEIGHT, at every f32, for all settings in their ranges. Both sides choose the same stretch, since
-- they compare the same numbers; where t lies in it is within 4 * 2 ^ -24 (DivideError), the bend is within 66 * 2 ^ -24 (BendError), and the blend of two levels adds less than
-- four more. So each stretch is one computed test of the analyser, against 128 * 2 ^ -24. Assumes nothing.
use mathlib.Core.Path.{◌≡◌}
use mathlib.Core.Bool.{Bool, true, false, not, cond}
use lib.IntN.{pos}
use lib.Dec.{T, lit<, lit≤}
use lib.Ieee.{Float, binary32, of_bits, fits, le, lt}
use lib.Ieee.Fits.{add-fits, mul-fits}
use lib.Ieee.Scale.{finite}
use Rattle.exact.specs.Fraction.{Fraction, ratio, whole, ltℚ, if_below}
use Rattle.exact.specs.Value.{value}
use Rattle.exact.specs.Binary32.{zero₃₂, one₃₂}
use Rattle.exact.proofs.Defined.{value_defined, choice_is}
use Rattle.exact.proofs.Order.{le_value, lt_value, lt_at_most, nlt_at_most}
use Rattle.rounding.proofs.Analyser.{Approximates, plain, eval_float, eval_exact}
use Rattle.rounding.proofs.Soundness.{plainly}
use Rattle.rounding.proofs.Inputs.{two, two_inputs, three, three_inputs, relax, concluded, result}
use Rattle.curve.specs.Curve.{position_of, drawn_of, Drawn}
use Rattle.curve.proofs.Positions.{Level, position_level}
use Rattle.curve.proofs.Clamped.{drawn_near}
use Rattle.curve.proofs.LevelInput.{unit, level_input}
use Rattle.settings.specs.declared.Envelope.{Envelope}
use Rattle.settings.proofs.Ranges.{EnvelopeRange}
use Rattle.envelope.specs.Formula.{divide_of, bent_of, attack_of, decay_of, sustain_of, release_of, envelope_level_of, envelope_height_of}
use Rattle.envelope.specs.Exact.{divideℚ, bentℚ, attackℚ, decayℚ, sustainℚ, releaseℚ, envelope_levelℚ, envelope_heightℚ}
use Rattle.envelope.proofs.DivideError.{End, end_finite, Stretch, divide_bound, divide_near, divide_fits}
use Rattle.envelope.proofs.BendError.{bent_bound, bent_near, bent_fits}
use Rattle.envelope.proofs.Blends.{level_bound, attack_ok, decay, decay_ok, sustain, sustain_ok, release, release_ok}
use Rattle.envelope.proofs.Ends.{level_end, zero_end, one_end, first_end, second_end, third_end}

-- ---- THE STRETCHES, at a position that lies in them
-- a float of binary32 within the bound
record LevelNear (x : Float) (A : Fraction) : Type 0 where
  holds : T (fits binary32 x)
  near : Approximates binary32 x A level_bound

attack_near : (e : Envelope) (t : Float) → EnvelopeRange e → Stretch t zero₃₂ e.first → LevelNear (attack_of e t) (attackℚ e (value t))
unfolding attack_of attackℚ value of_bits
attack_near e t r s =
    let u = divide_of t zero₃₂ e.first in
    record {
      holds = bent_fits u e.attack_bend (divide_fits t zero₃₂ e.first);
      near = relax binary32 _ _ bent_bound level_bound (bent_near u e.attack_bend _ (divide_near t zero₃₂ e.first s) r.attack) attack_ok;
    }

decay_near : (e : Envelope) (t : Float) → EnvelopeRange e → Stretch t e.first e.second → LevelNear (decay_of e t) (decayℚ e (value t))
unfolding decay_of decayℚ decay two eval_float eval_exact plain value of_bits
decay_near e t r s =
    let b = bent_of (divide_of t e.first e.second) e.decay_bend in
    let B = bentℚ (divideℚ (value t) (value e.first) (value e.second)) (value e.decay_bend) in
    let h = bent_near (divide_of t e.first e.second) e.decay_bend (divideℚ (value t) (value e.first) (value e.second)) (divide_near t e.first e.second s) r.decay in
    let c = e.sustain in
    record {
      holds = add-fits binary32 _ _;
      near = concluded binary32 (two c b) (two (value c) B) (two unit bent_bound) (two_inputs binary32 c b (value c) B unit bent_bound (level_input c r.sustain) h) decay (plainly binary32 (two (value c) B) decay tt) level_bound decay_ok;
    }

sustain_near : (e : Envelope) (t : Float) → EnvelopeRange e → Stretch t e.second e.third → LevelNear (sustain_of e t) (sustainℚ e (value t))
unfolding sustain_of sustainℚ sustain three eval_float eval_exact plain
sustain_near e t r s =
    let u = divide_of t e.second e.third in
    let X = divideℚ (value t) (value e.second) (value e.third) in
    let c = e.sustain in
    let d = e.sustain_end in
    record {
      holds = add-fits binary32 _ _;
      near =
          concluded binary32 (three c d u) (three (value c) (value d) X) (three unit unit divide_bound)
          (three_inputs binary32 c d u (value c) (value d) X unit unit divide_bound (level_input c r.sustain) (level_input d r.sustain_end) (divide_near t e.second e.third s))
          sustain (plainly binary32 (three (value c) (value d) X) sustain tt) level_bound sustain_ok;
    }

release_near : (e : Envelope) (t : Float) → EnvelopeRange e → Stretch t e.third one₃₂ → LevelNear (release_of e t) (releaseℚ e (value t))
unfolding release_of releaseℚ release two eval_float eval_exact plain value of_bits
release_near e t r s =
    let b = bent_of (divide_of t e.third one₃₂) e.release_bend in
    let B = bentℚ (divideℚ (value t) (value e.third) (whole (pos 1))) (value e.release_bend) in
    let h = bent_near (divide_of t e.third one₃₂) e.release_bend (divideℚ (value t) (value e.third) (whole (pos 1))) (divide_near t e.third one₃₂ s) r.release in
    let d = e.sustain_end in
    record {
      holds = mul-fits binary32 _ _;
      near = concluded binary32 (two d b) (two (value d) B) (two unit bent_bound) (two_inputs binary32 d b (value d) B unit bent_bound (level_input d r.sustain_end) h) release (plainly binary32 (two (value d) B) release tt) level_bound release_ok;
    }

-- ---- EVERY POSITION: from 0 to 1, in the first stretch whose end it is below, or in the release
level_near : (e : Envelope) (t : Float) → EnvelopeRange e → Level t → LevelNear (envelope_level_of e t) (envelope_levelℚ e (value t))
unfolding envelope_level_of envelope_levelℚ
level_near e t r h =
    rw (chosen e.first f₁, chosen e.second f₂, chosen e.third f₃, ← lt_value t e.first ft f₁, ← lt_value t e.second ft f₂, ← lt_value t e.third ft f₃)
    (go (lt t e.first) (lt t e.second) (lt t e.third)
    (λ a. attack_near e t r (record { at = at; start = zero_end; stop = first_end e r; after = (le_value zero₃₂ t (end_finite zero₃₂ zero_end) ft).0 h.from; before = (lt_at_most t e.first ft f₁ a).le }))
    (λ a b. decay_near e t r (record { at = at; start = first_end e r; stop = second_end e r; after = (nlt_at_most t e.first ft f₁ a).le; before = (lt_at_most t e.second ft f₂ b).le }))
    (λ b c. sustain_near e t r (record { at = at; start = second_end e r; stop = third_end e r; after = (nlt_at_most t e.second ft f₂ b).le; before = (lt_at_most t e.third ft f₃ c).le }))
    (λ c. release_near e t r (record { at = at; start = third_end e r; stop = one_end; after = (nlt_at_most t e.third ft f₃ c).le; before = (le_value t one₃₂ ft (end_finite one₃₂ one_end)).0 h.to })))
  where
    at : End t
    at = level_end t h

    ft : T (finite t)
    ft = end_finite t at

    f₁ : T (finite e.first)
    f₁ = end_finite e.first (first_end e r)

    f₂ : T (finite e.second)
    f₂ = end_finite e.second (second_end e r)

    f₃ : T (finite e.third)
    f₃ = end_finite e.third (third_end e r)

    chosen : (x : Float) → T (finite x) → (X Y : Fraction) → if_below (value t) (value x) X Y ≡ cond (ltℚ (value t) (value x)) X Y
    chosen x f = choice_is (value t) (value x) ((value_defined t).1 ft) ((value_defined x).1 f)

    go : (a b c : Bool) → (T a → LevelNear (attack_of e t) (attackℚ e (value t))) → (T (not a) → T b → LevelNear (decay_of e t) (decayℚ e (value t)))
        → (T (not b) → T c → LevelNear (sustain_of e t) (sustainℚ e (value t))) → (T (not c) → LevelNear (release_of e t) (releaseℚ e (value t)))
        → LevelNear (cond a (attack_of e t) (cond b (decay_of e t) (cond c (sustain_of e t) (release_of e t)))) (cond a (attackℚ e (value t)) (cond b (decayℚ e (value t)) (cond c (sustainℚ e (value t)) (releaseℚ e (value t)))))
    go true b c i j k l = i tt
    go false true c i j k l = j tt tt
    go false false true i j k l = k tt tt
    go false false false i j k l = l tt

-- ---- THE THEOREM
pub envelope_drawn : (e : Envelope) → EnvelopeRange e → (t : Float) → T (fits binary32 t) → Drawn (envelope_height_of e t).height (envelope_heightℚ e t) (ratio 1 131072)
unfolding envelope_height_of drawn_of envelope_heightℚ level_bound
envelope_drawn e r t f =
    let p = position_of t in
    let n = level_near e p r (position_level t f) in
    drawn_near (envelope_level_of e p) (envelope_levelℚ e (value p)) 1 131072 n.holds (result binary32 _ _ level_bound 1 131072 (lit< tt) n.near (lit≤ tt))
