-- THE OSCILLATOR'S HEIGHT IS WITHIN 1 / 262,144 OF ITS EXACT HEIGHT: the saw by one analysis, the pulse without error, and their mean by one computed test for each
-- choice of the waves that are on. Assumes nothing.
use mathlib.Core.Path.{◌≡◌, refl, subst₂}
use mathlib.Core.Bool.{Bool, true, false, cond}
use lib.Dec.{T, eqb, lit<}
use lib.Ieee.{Float, binary32, of_bits, of_int, neg, lt, fits}
use lib.Ieee.Fits.{cond-fits, add-fits}
use lib.Ieee.Bits.{of_bits-fits}
use Rattle.exact.specs.Fraction.{Fraction, ratio}
use Rattle.exact.specs.Value.{value, Within}
use Rattle.exact.specs.Binary32.{half₃₂, one₃₂}
use Rattle.rounding.proofs.Analyser.{Approximates, plain, eval_float, eval_exact, constant_of}
use Rattle.rounding.proofs.Soundness.{plainly}
use Rattle.rounding.proofs.StepLeaves.{constant_sound}
use Rattle.rounding.proofs.Inputs.{one, one_input, three, three_inputs, covers, relax, concluded, bounded}
use Rattle.curve.specs.Curve.{position_of, drawn_of, Drawn}
use Rattle.curve.proofs.Positions.{Level, position_level}
use Rattle.curve.proofs.Clamped.{drawn_near}
use Rattle.settings.specs.declared.Oscillator.{Oscillator}
use Rattle.settings.proofs.Ranges.{OscillatorRange}
use Rattle.oscillator.specs.Formula.{saw_of, pulse_of, added_of, sum_of, waves_of, oscillator_level_of, oscillator_height_of}
use Rattle.oscillator.specs.Exact.{sawℚ, pulseℚ, addedℚ, sumℚ, oscillatorℚ, oscillator_heightℚ}
use Rattle.curve.proofs.LevelInput.{unit, level_input}
use Rattle.oscillator.proofs.WaveError.{wave, saw_expr, saw_ok}
use Rattle.oscillator.proofs.Mean.{mean, mix, mix_ok}

-- ---- THE WAVES
saw_input : (x : Float) → Level x → Approximates binary32 (saw_of x) (sawℚ (value x)) wave
unfolding saw_of sawℚ saw_expr one eval_float eval_exact plain value of_bits
saw_input x h =
    concluded binary32 (one x) (one (value x)) (one unit) (one_input binary32 x (value x) unit (level_input x h)) saw_expr (plainly binary32 (one (value x)) saw_expr tt) wave saw_ok

pulse_input : (w x : Float) → Approximates binary32 (pulse_of w x) (pulseℚ (lt x w)) wave
unfolding pulse_of pulseℚ wave constant_of covers value of_bits neg
pulse_input w x = go (lt x w)
  where
    go : (b : Bool) → Approximates binary32 (cond b one₃₂ (neg one₃₂)) (pulseℚ b) wave
    go true = relax binary32 one₃₂ (value one₃₂) (constant_of binary32 one₃₂).bound wave (constant_sound binary32 one₃₂ tt) tt
    go false = relax binary32 (neg one₃₂) (value (neg one₃₂)) (constant_of binary32 (neg one₃₂)).bound wave (constant_sound binary32 (neg one₃₂) tt) tt

mix_plain : (s p : Bool) → T (plain (mix s p))
unfolding plain mix mean
mix_plain false false = tt
mix_plain true false = tt
mix_plain false true = tt
mix_plain true true = tt

abbrev of : Bool → Bool → Float → Float → Float → Oscillator
of s p w v l = record { saw = s; pulse = p; width = w; sweep = v; level = l }

runs : (s p : Bool) (w v l x : Float) → eval_float binary32 (three l (saw_of x) (pulse_of w x)) (mix s p) ≡ oscillator_level_of (of s p w v l) x
unfolding eval_float mix mean three oscillator_level_of waves_of sum_of added_of of_int of_bits
runs false false w v l x = refl
runs true false w v l x = refl
runs false true w v l x = refl
runs true true w v l x = refl

means : (s p : Bool) (w v l x : Float) → eval_exact (three (value l) (sawℚ (value x)) (pulseℚ (lt x w))) (mix s p) ≡ oscillatorℚ (of s p w v l) x
unfolding eval_exact mix mean three oscillatorℚ waves_of sumℚ addedℚ value of_bits
means false false w v l x = refl
means true false w v l x = refl
means false true w v l x = refl
means true true w v l x = refl

near : (s p : Bool) (w v l x : Float) → Level l → Level x → Within (value (oscillator_level_of (of s p w v l) x)) (oscillatorℚ (of s p w v l) x) (ratio 1 262144)
near s p w v l x h k =
    subst₂ (λ (y : Float) (Y : Fraction). Within (value y) Y (ratio 1 262144)) (runs s p w v l x) (means s p w v l x)
    (bounded binary32 (three l (saw_of x) (pulse_of w x)) (three (value l) (sawℚ (value x)) (pulseℚ (lt x w))) (three unit wave wave)
    (three_inputs binary32 l (saw_of x) (pulse_of w x) (value l) (sawℚ (value x)) (pulseℚ (lt x w)) unit wave wave (level_input l h) (saw_input x k) (pulse_input w x))
    (mix s p) (plainly binary32 (three (value l) (sawℚ (value x)) (pulseℚ (lt x w))) (mix s p) (mix_plain s p)) 1 262144 (lit< tt) (mix_ok s p))

pub oscillator_level_near : (o : Oscillator) → OscillatorRange o → (x : Float) → Level x → Within (value (oscillator_level_of o x)) (oscillatorℚ o x) (ratio 1 262144)
oscillator_level_near o r x h = near o.saw o.pulse o.width o.sweep o.level x r.level h

level_fits : (o : Oscillator) (x : Float) → T (fits binary32 (oscillator_level_of o x))
unfolding oscillator_level_of
level_fits o x = cond-fits binary32 (eqb (waves_of o) 0) half₃₂ _ (of_bits-fits binary32 0x3f00_0000) (add-fits binary32 half₃₂ _)

-- ---- THE THEOREM
pub oscillator_drawn : (o : Oscillator) → OscillatorRange o → (t : Float) → T (fits binary32 t) → Drawn (oscillator_height_of o t).height (oscillator_heightℚ o t) (ratio 1 262144)
unfolding oscillator_height_of oscillator_heightℚ drawn_of
oscillator_drawn o r t h =
    let x = position_of t in
    drawn_near (oscillator_level_of o x) (oscillatorℚ o x) 1 262144 (level_fits o x) (oscillator_level_near o r x (position_level t h))
