-- `code_number` is `code_number`. Assumes nothing.
use Rattle.codes.proofs.code_number.Goals as goal

pub returns-in-Lfo : goal.returns-in-Lfo
returns-in-Lfo c = simp (c.in-Lfo.is, c.lfo_number.ensures.0)

pub returns-in-LfoUnipolar : goal.returns-in-LfoUnipolar
returns-in-LfoUnipolar c = simp (c.in-LfoUnipolar.is, c.lfo_number-in-LfoUnipolar.ensures.0)

pub returns-in-Fade : goal.returns-in-Fade
returns-in-Fade c = simp (c.in-Fade.is, c.lfo_number-in-Fade.ensures.0)

pub returns-in-Oscillator : goal.returns-in-Oscillator
returns-in-Oscillator c = simp (c.in-Oscillator.is, c.oscillator_number.ensures.0)
