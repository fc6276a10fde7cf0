-- `shape_height` is `height_of`, an arm for each family. Assumes nothing.
use borrow.Author.Rules.{rules}
use Rattle.shape_heights.specs.Heights.{height_of}
use Rattle.shape_heights.proofs.shape_height.Goals as goal

pub enum_known-shape : goal.enum_known-shape
unfolding height_of
enum_known-shape c = search rules

pub envelope_height-requires : goal.envelope_height-requires
unfolding height_of
envelope_height-requires c = search rules

pub enum_known-shape-in-Fade-1 : goal.enum_known-shape-in-Fade-1
unfolding height_of
enum_known-shape-in-Fade-1 c = search rules

pub fade_height-requires : goal.fade_height-requires
unfolding height_of
fade_height-requires c = search rules

pub enum_known-shape-in-Lfo-1 : goal.enum_known-shape-in-Lfo-1
unfolding height_of
enum_known-shape-in-Lfo-1 c = search rules

pub lfo_height-requires : goal.lfo_height-requires
unfolding height_of
lfo_height-requires c = search rules

pub enum_known-shape-in-Filter-1 : goal.enum_known-shape-in-Filter-1
unfolding height_of
enum_known-shape-in-Filter-1 c = search rules

pub filter_height-requires : goal.filter_height-requires
unfolding height_of
filter_height-requires c = search rules

pub enum_known-shape-in-Oscillator-1 : goal.enum_known-shape-in-Oscillator-1
unfolding height_of
enum_known-shape-in-Oscillator-1 c = search rules

pub oscillator_height-requires : goal.oscillator_height-requires
unfolding height_of
oscillator_height-requires c = search rules

pub enum_known-shape-in-Noise-1 : goal.enum_known-shape-in-Noise-1
unfolding height_of
enum_known-shape-in-Noise-1 c = search rules

pub noise_height-requires : goal.noise_height-requires
unfolding height_of
noise_height-requires c = search rules

pub returns-in-Envelope : goal.returns-in-Envelope
unfolding height_of
returns-in-Envelope c = simp (c.in-Envelope.is, c.envelope_height.ensures)

pub returns-in-Fade : goal.returns-in-Fade
unfolding height_of
returns-in-Fade c = simp (c.in-Fade.is, c.fade_height.ensures)

pub returns-in-Lfo : goal.returns-in-Lfo
unfolding height_of
returns-in-Lfo c = simp (c.in-Lfo.is, c.lfo_height.ensures)

pub returns-in-Filter : goal.returns-in-Filter
unfolding height_of
returns-in-Filter c = simp (c.in-Filter.is, c.filter_height.ensures)

pub returns-in-Oscillator : goal.returns-in-Oscillator
unfolding height_of
returns-in-Oscillator c = simp (c.in-Oscillator.is, c.oscillator_height.ensures)

pub returns-in-Noise : goal.returns-in-Noise
unfolding height_of
returns-in-Noise c = simp (c.in-Noise.is, c.noise_height.ensures)
