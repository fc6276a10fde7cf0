-- SETTINGS AS PLAIN NUMBERS: docs/SPECIFICATION.md, "The C interface". A generator's fields in the order of their declaration, each an f32. Definitions only.
use Rattle.std.specs.Prelude.{Bool, cond, List, [], ◌∷◌, length, Float}
use Rattle.lists.specs.Padded.{padded}
use Rattle.exact.specs.Binary32.{bits, zero₃₂, one₃₂}
use Rattle.settings.specs.declared.LfoShape.{LfoShape}
use Rattle.settings.specs.declared.LfoShape.TheVariants.{Sine, Triangle, Square, RampUp, RampDown, SampleAndHold, SampleAndGlide}
use Rattle.settings.specs.declared.Pass.{Pass}
use Rattle.settings.specs.declared.Pass.TheVariants.{Low, High}
use Rattle.generator.specs.declared.Shape.{Shape}
use Rattle.generator.specs.declared.Shape.TheVariants.{Envelope as AnEnvelope, Fade as AFade, Lfo as AnLfo, Filter as AFilter, Oscillator as AnOscillator, Noise as ANoise}
use Rattle.settings_numbers.specs.declared.Numbers.{Numbers}

-- A bool is 1 or 0.
abbrev pub flag_of : Bool → Float
flag_of b = cond b one₃₂ zero₃₂

-- A shape is the byte that names it, 0 to 6.
abbrev pub shape_number : LfoShape → Float
shape_number Sine = zero₃₂
shape_number Triangle = one₃₂
shape_number Square = bits 0x4000_0000
shape_number RampUp = bits 0x4040_0000
shape_number RampDown = bits 0x4080_0000
shape_number SampleAndHold = bits 0x40a0_0000
shape_number SampleAndGlide = bits 0x40c0_0000

-- A pass is 0 for low and 1 for high.
abbrev pub pass_number : Pass → Float
pass_number Low = zero₃₂
pass_number High = one₃₂

-- The fields of each generator's settings.
unfoldable pub settings_list : Shape → List Float
settings_list (AnEnvelope e) = e.first ∷ e.second ∷ e.third ∷ e.sustain ∷ e.sustain_end ∷ e.attack_bend ∷ e.decay_bend ∷ e.release_bend ∷ []
settings_list (AFade f) = f.end ∷ []
settings_list (AnLfo l) = shape_number l.shape ∷ l.turns ∷ l.slew ∷ flag_of l.unipolar ∷ flag_of l.synced ∷ []
settings_list (AFilter f) = f.slope ∷ f.resonance ∷ f.span ∷ pass_number f.pass ∷ []
settings_list (AnOscillator o) = flag_of o.saw ∷ flag_of o.pulse ∷ o.width ∷ o.sweep ∷ o.level ∷ []
settings_list (ANoise n) = n.level ∷ []

-- A record of eight places and a count.
unfoldable pub stored_settings : List Float → Numbers
stored_settings xs = record { places = padded zero₃₂ 8 xs; count = length xs }

unfoldable pub settings_numbers : Shape → Numbers
settings_numbers s = stored_settings (settings_list s)
