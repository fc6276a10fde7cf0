-- `shape_at` is `shape_of`, an arm for each kind of code. Assumes nothing.
use Rattle.code_shapes.specs.Shapes.{shape_of}
use Rattle.code_shapes.proofs.shape_at.Goals as goal

pub returns-in-Envelope : goal.returns-in-Envelope
unfolding shape_of
returns-in-Envelope c = simp (c.envelope_at.ensures, c.in-Envelope.is)

pub returns-in-Lfo : goal.returns-in-Lfo
unfolding shape_of
returns-in-Lfo c = simp (c.lfo_at.ensures, c.in-Lfo.is)

pub returns-in-LfoUnipolar : goal.returns-in-LfoUnipolar
unfolding shape_of
returns-in-LfoUnipolar c = simp (c.lfo_at-in-LfoUnipolar.ensures, c.in-LfoUnipolar.is)

pub returns-in-Fade : goal.returns-in-Fade
unfolding shape_of
returns-in-Fade c = simp (c.fade_at.ensures, c.in-Fade.is)

pub returns-in-LowPass : goal.returns-in-LowPass
unfolding shape_of
returns-in-LowPass c = simp (c.low_pass_from.ensures, c.in-LowPass.is)

pub returns-in-HighPass : goal.returns-in-HighPass
unfolding shape_of
returns-in-HighPass c = simp (c.high_pass.ensures, c.in-HighPass.is)

pub returns-in-Oscillator : goal.returns-in-Oscillator
unfolding shape_of
returns-in-Oscillator c = simp (c.oscillator_at.ensures, c.in-Oscillator.is)

pub returns-in-Noise : goal.returns-in-Noise
unfolding shape_of
returns-in-Noise c = simp (c.noise_from.ensures, c.in-Noise.is)
