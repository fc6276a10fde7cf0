-- `height_at` is the height of `shape_of`, an arm for each kind of code. Assumes nothing.
use Rattle.code_shapes.specs.Shapes.{shape_of}
use Rattle.shape_heights.specs.Heights.{height_of}
use borrow.Author.Rules.{rules}
use Rattle.code_heights.proofs.height_at.Goals as goal

pub enum_known-code : goal.enum_known-code
unfolding shape_of height_of
enum_known-code c = search rules

pub envelope_at-requires : goal.envelope_at-requires
unfolding shape_of height_of
envelope_at-requires c = search rules

pub envelope_height-requires : goal.envelope_height-requires
unfolding shape_of height_of
envelope_height-requires c = search rules

pub enum_known-code-in-Lfo-1 : goal.enum_known-code-in-Lfo-1
unfolding shape_of height_of
enum_known-code-in-Lfo-1 c = search rules

pub lfo_at-requires : goal.lfo_at-requires
unfolding shape_of height_of
lfo_at-requires c = search rules

pub lfo_height-requires : goal.lfo_height-requires
unfolding shape_of height_of
lfo_height-requires c = search rules

pub enum_known-code-in-LfoUnipolar-1 : goal.enum_known-code-in-LfoUnipolar-1
unfolding shape_of height_of
enum_known-code-in-LfoUnipolar-1 c = search rules

pub lfo_at-requires-in-LfoUnipolar : goal.lfo_at-requires-in-LfoUnipolar
unfolding shape_of height_of
lfo_at-requires-in-LfoUnipolar c = search rules

pub lfo_height-requires-in-LfoUnipolar : goal.lfo_height-requires-in-LfoUnipolar
unfolding shape_of height_of
lfo_height-requires-in-LfoUnipolar c = search rules

pub enum_known-code-in-Fade-1 : goal.enum_known-code-in-Fade-1
unfolding shape_of height_of
enum_known-code-in-Fade-1 c = search rules

pub enum_told-1 : goal.enum_told-1
unfolding shape_of height_of
enum_told-1 c = search rules

pub fade_at-requires : goal.fade_at-requires
unfolding shape_of height_of
fade_at-requires c = search rules

pub fade_height-requires : goal.fade_height-requires
unfolding shape_of height_of
fade_height-requires c = search rules

pub enum_told-in-Two : goal.enum_told-in-Two
unfolding shape_of height_of
enum_told-in-Two c = search rules

pub fade_at-requires-in-Two : goal.fade_at-requires-in-Two
unfolding shape_of height_of
fade_at-requires-in-Two c = search rules

pub fade_height-requires-in-Two : goal.fade_height-requires-in-Two
unfolding shape_of height_of
fade_height-requires-in-Two c = search rules

pub enum_told-in-LowPass : goal.enum_told-in-LowPass
unfolding shape_of height_of
enum_told-in-LowPass c = search rules

pub bounds-block-41 : goal.bounds-block-41
unfolding shape_of height_of
bounds-block-41 c = search rules

pub bounds-block-51 : goal.bounds-block-51
unfolding shape_of height_of
bounds-block-51 c = search rules

pub low_pass_from-requires : goal.low_pass_from-requires
unfolding shape_of height_of
low_pass_from-requires c = search rules

pub filter_height-requires : goal.filter_height-requires
unfolding shape_of height_of
filter_height-requires c = search rules

pub enum_told-in-HighPass : goal.enum_told-in-HighPass
unfolding shape_of height_of
enum_told-in-HighPass c = search rules

pub high_pass-requires : goal.high_pass-requires
unfolding shape_of height_of
high_pass-requires c = search rules

pub filter_height-requires-in-HighPass : goal.filter_height-requires-in-HighPass
unfolding shape_of height_of
filter_height-requires-in-HighPass c = search rules

pub enum_known-code-in-Oscillator-1 : goal.enum_known-code-in-Oscillator-1
unfolding shape_of height_of
enum_known-code-in-Oscillator-1 c = search rules

pub enum_told-in-One-id : goal.enum_told-in-One-id
unfolding shape_of height_of
enum_told-in-One-id c = search rules

pub oscillator_at-requires : goal.oscillator_at-requires
unfolding shape_of height_of
oscillator_at-requires c = search rules

pub oscillator_height-requires : goal.oscillator_height-requires
unfolding shape_of height_of
oscillator_height-requires c = search rules

pub enum_told-in-Two-id : goal.enum_told-in-Two-id
unfolding shape_of height_of
enum_told-in-Two-id c = search rules

pub oscillator_at-requires-in-Two-id : goal.oscillator_at-requires-in-Two-id
unfolding shape_of height_of
oscillator_at-requires-in-Two-id c = search rules

pub oscillator_height-requires-in-Two-id : goal.oscillator_height-requires-in-Two-id
unfolding shape_of height_of
oscillator_height-requires-in-Two-id c = search rules

pub enum_told-in-Noise : goal.enum_told-in-Noise
unfolding shape_of height_of
enum_told-in-Noise c = search rules

pub bounds-block-33 : goal.bounds-block-33
unfolding shape_of height_of
bounds-block-33 c = search rules

pub noise_from-requires : goal.noise_from-requires
unfolding shape_of height_of
noise_from-requires c = search rules

pub noise_height-requires : goal.noise_height-requires
unfolding shape_of height_of
noise_height-requires c = search rules

pub returns-in-Envelope : goal.returns-in-Envelope
unfolding shape_of height_of
returns-in-Envelope c = simp (c.envelope_height.ensures, c.envelope_at.ensures, c.in-Envelope.is)

pub returns-in-Lfo : goal.returns-in-Lfo
unfolding shape_of height_of
returns-in-Lfo c = simp (c.lfo_height.ensures, c.lfo_at.ensures, c.in-Lfo.is)

pub returns-in-LfoUnipolar : goal.returns-in-LfoUnipolar
unfolding shape_of height_of
returns-in-LfoUnipolar c = simp (c.lfo_height-in-LfoUnipolar.ensures, c.lfo_at-in-LfoUnipolar.ensures, c.in-LfoUnipolar.is)

pub returns-in-One : goal.returns-in-One
unfolding shape_of height_of
returns-in-One c = simp (c.fade_height.ensures, c.fade_at.ensures, c.in-Fade.is, c.in-One.is)

pub returns-in-Two : goal.returns-in-Two
unfolding shape_of height_of
returns-in-Two c = simp (c.fade_height-in-Two.ensures, c.fade_at-in-Two.ensures, c.in-Fade.is, c.in-Two.is)

pub returns-in-LowPass : goal.returns-in-LowPass
unfolding shape_of height_of
returns-in-LowPass c = simp (c.filter_height.ensures, c.low_pass_from.ensures, c.in-LowPass.is)

pub returns-in-HighPass : goal.returns-in-HighPass
unfolding shape_of height_of
returns-in-HighPass c = simp (c.filter_height-in-HighPass.ensures, c.high_pass.ensures, c.in-HighPass.is)

pub returns-in-One-id : goal.returns-in-One-id
unfolding shape_of height_of
returns-in-One-id c = simp (c.oscillator_height.ensures, c.oscillator_at.ensures, c.in-Oscillator.is, c.in-One-id.is)

pub returns-in-Two-id : goal.returns-in-Two-id
unfolding shape_of height_of
returns-in-Two-id c = simp (c.oscillator_height-in-Two-id.ensures, c.oscillator_at-in-Two-id.ensures, c.in-Oscillator.is, c.in-Two-id.is)

pub returns-in-Noise : goal.returns-in-Noise
unfolding shape_of height_of
returns-in-Noise c = simp (c.noise_height.ensures, c.noise_from.ensures, c.in-Noise.is)
