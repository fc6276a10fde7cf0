-- `rest` is `rest_of` of the shape. Assumes nothing.
use mathlib.Core.Path.{◌≡◌, refl}
use lib.Ieee.{div, of_bits}
use Rattle.generator.specs.Generator.{filter_unity}
use Rattle.exact.specs.Binary32.{bits}
use Rattle.generator.proofs.Generator.rest.Goals as goal

-- 0.8, as 48 / 60
unity : bits 0x3f4c_cccd ≡ filter_unity
unfolding filter_unity div of_bits
unity = refl

pub returns-then-l : goal.returns-then-l
returns-then-l c = simp (c.in-Lfo.is, c.if-l.true)

pub returns-in-Envelope : goal.returns-in-Envelope
returns-in-Envelope c = simp c.in-Envelope.is

pub returns-in-Fade : goal.returns-in-Fade
returns-in-Fade c = simp c.in-Fade.is

pub returns-else-l : goal.returns-else-l
returns-else-l c = simp (c.in-Lfo.is, c.if-l.false)

pub returns-in-Filter : goal.returns-in-Filter
returns-in-Filter c = simp c.in-Filter.is unity

pub returns-in-Oscillator : goal.returns-in-Oscillator
returns-in-Oscillator c = simp c.in-Oscillator.is

pub returns-in-Noise : goal.returns-in-Noise
returns-in-Noise c = simp c.in-Noise.is
