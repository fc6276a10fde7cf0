-- `fill` fills by the family of the shape, as the plain engine does. Assumes nothing.
use Rattle.shape_strip.proofs.fill.Goals as goal

pub returns-in-Envelope : goal.returns-in-Envelope
returns-in-Envelope c = simp c.in-Envelope.is c.fill_curve.ensures

pub returns-in-Fade : goal.returns-in-Fade
returns-in-Fade c = simp c.in-Fade.is c.fill_curve-in-Fade.ensures

pub returns-in-Lfo : goal.returns-in-Lfo
returns-in-Lfo c = simp c.in-Lfo.is c.fill_lfo.ensures

pub returns-in-Filter : goal.returns-in-Filter
returns-in-Filter c = simp c.in-Filter.is c.fill_curve-in-Filter.ensures

pub returns-in-Oscillator : goal.returns-in-Oscillator
returns-in-Oscillator c = simp c.in-Oscillator.is c.fill_curve-in-Oscillator.ensures

pub returns-in-Noise : goal.returns-in-Noise
returns-in-Noise c = simp c.in-Noise.is c.fill_curve-in-Noise.ensures
