-- `strip_at` fills with the heights of `shape_of`, an arm for each kind of code. Assumes nothing.
use mathlib.Core.Path.{sym}
use Rattle.code_shapes.specs.Shapes.{shape_of}
use Rattle.code_strip.proofs.strip_at.Goals as goal

pub returns-in-Envelope : goal.returns-in-Envelope
unfolding shape_of
returns-in-Envelope c = simp c.in-Envelope.is c.strip_envelope.ensures

pub returns-in-Lfo : goal.returns-in-Lfo
unfolding shape_of
returns-in-Lfo c = simp c.in-Lfo.is c.strip_lfo.ensures

pub returns-in-LfoUnipolar : goal.returns-in-LfoUnipolar
unfolding shape_of
returns-in-LfoUnipolar c = simp c.in-LfoUnipolar.is c.strip_lfo-in-LfoUnipolar.ensures

pub returns-in-One : goal.returns-in-One
unfolding shape_of
returns-in-One c = simp (c.in-Fade.is, c.in-One.is, sym c.fade_at.ensures) c.fill_curve.ensures

pub returns-in-Two : goal.returns-in-Two
unfolding shape_of
returns-in-Two c = simp (c.in-Fade.is, c.in-Two.is, sym c.fade_at-in-Two.ensures) c.fill_curve-in-Two.ensures

pub returns-in-LowPass : goal.returns-in-LowPass
unfolding shape_of
returns-in-LowPass c = simp (c.in-LowPass.is, sym c.low_pass_from.ensures) c.fill_curve-in-LowPass.ensures

pub returns-in-HighPass : goal.returns-in-HighPass
unfolding shape_of
returns-in-HighPass c = simp (c.in-HighPass.is, sym c.high_pass.ensures) c.fill_curve-in-HighPass.ensures

pub returns-in-Oscillator : goal.returns-in-Oscillator
unfolding shape_of
returns-in-Oscillator c = simp (c.in-Oscillator.is, sym c.oscillator_at.ensures) c.fill_curve-in-Oscillator.ensures

pub returns-in-Noise : goal.returns-in-Noise
unfolding shape_of
returns-in-Noise c = simp (c.in-Noise.is, sym c.noise_from.ensures) c.fill_curve-in-Noise.ensures
