-- `bytes_of` has the bytes of `bytes_of`, an arm for each kind of code. Assumes nothing.
use Rattle.code_bytes.specs.Bytes.{bytes_of}
use borrow.Author.Rules.{rules}
use Rattle.code_bytes.proofs.bytes_of.Goals as goal

pub returns-in-Envelope : goal.returns-in-Envelope
unfolding bytes_of
returns-in-Envelope c = (c.envelope_bytes.ensures.0, simp (c.in-Envelope.is, c.envelope_bytes.ensures.1, c.envelope_first.ensures.0))

pub returns-in-Lfo : goal.returns-in-Lfo
unfolding bytes_of
returns-in-Lfo c = (c.lfo_bytes.ensures.0, simp (c.in-Lfo.is, c.lfo_bytes.ensures.1, c.lfo_first.ensures.0))

pub returns-in-LfoUnipolar : goal.returns-in-LfoUnipolar
unfolding bytes_of
returns-in-LfoUnipolar c = (c.lfo_bytes-in-LfoUnipolar.ensures.0, simp (c.in-LfoUnipolar.is, c.lfo_bytes-in-LfoUnipolar.ensures.1, c.lfo_first-in-LfoUnipolar.ensures.0))

pub returns-in-Fade : goal.returns-in-Fade
unfolding bytes_of
returns-in-Fade c = (c.one_byte.ensures.0, simp (c.in-Fade.is, c.one_byte.ensures.1, c.fade_byte.ensures.0))

pub returns-in-LowPass : goal.returns-in-LowPass
unfolding bytes_of
returns-in-LowPass c = (search rules, simp c.in-LowPass.is)

pub returns-in-HighPass : goal.returns-in-HighPass
unfolding bytes_of
returns-in-HighPass c = (search rules, simp c.in-HighPass.is)

pub returns-in-Oscillator : goal.returns-in-Oscillator
unfolding bytes_of
returns-in-Oscillator c = (c.oscillator_bytes.ensures.0, simp c.in-Oscillator.is c.oscillator_bytes.ensures.1)

pub returns-in-Noise : goal.returns-in-Noise
unfolding bytes_of
returns-in-Noise c = (c.one_byte-in-Noise.ensures.0, simp (c.in-Noise.is, c.one_byte-in-Noise.ensures.1))
