-- `put_dials` puts `dials_of`, an arm for each kind of code. Assumes nothing.
use Rattle.dials.specs.Dials.{dials_of}
use Rattle.dials.proofs.put_dials.Goals as goal

pub returns-in-Envelope : goal.returns-in-Envelope
unfolding dials_of
returns-in-Envelope c = simp c.in-Envelope.is (rw c.envelope_first.ensures.0 at c.envelope_dials.ensures)

pub returns-in-Lfo : goal.returns-in-Lfo
unfolding dials_of
returns-in-Lfo c = simp c.in-Lfo.is (rw c.lfo_first.ensures.0 at c.lfo_dials.ensures)

pub returns-in-LfoUnipolar : goal.returns-in-LfoUnipolar
unfolding dials_of
returns-in-LfoUnipolar c = simp c.in-LfoUnipolar.is (rw c.lfo_first-in-LfoUnipolar.ensures.0 at c.lfo_other_dials.ensures)

pub returns-in-Fade : goal.returns-in-Fade
unfolding dials_of
returns-in-Fade c = simp c.in-Fade.is (rw c.fade_byte.ensures.0 at c.put_dial.ensures)

pub returns-in-LowPass : goal.returns-in-LowPass
unfolding dials_of
returns-in-LowPass c = simp c.in-LowPass.is c.low_pass_dials.ensures

pub returns-in-HighPass : goal.returns-in-HighPass
unfolding dials_of
returns-in-HighPass c = simp c.in-HighPass.is c.put.ensures

pub returns-in-One : goal.returns-in-One
unfolding dials_of
returns-in-One c = simp (c.in-Oscillator.is, c.in-One.is) c.oscillator_dials.ensures

pub returns-in-Two : goal.returns-in-Two
unfolding dials_of
returns-in-Two c = simp (c.in-Oscillator.is, c.in-Two.is) c.put_dial-in-Two.ensures

pub returns-in-Noise : goal.returns-in-Noise
unfolding dials_of
returns-in-Noise c = simp c.in-Noise.is c.put_dial-in-Noise.ensures
