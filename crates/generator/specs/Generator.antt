-- WHAT A GENERATOR SAYS OF ITSELF: docs/SPECIFICATION.md, "Settings" and "Marks, rest, scale, anchor, gates". Definitions only.
use Rattle.std.specs.Prelude.{Bool, true, false, cond, List, [], ◌∷◌, ℕ, Float}
use Rattle.exact.specs.Binary32.{◌⊗◌, ◌⊘◌, bits, zero₃₂, half₃₂, one₃₂}
use Rattle.marks.specs.declared.MarkKind.TheVariants.{Corner}
use Rattle.marks.specs.declared.Mark.{Mark}
use Rattle.marks.specs.declared.Marks.{Marks}
use Rattle.marks.specs.Marks.{mark_of, stored, envelope_marks, fade_marks, cycles_of, oscillator_marks}
use Rattle.generator.specs.declared.Shape.{Shape}
use Rattle.generator.specs.declared.Shape.TheVariants.{Envelope as AnEnvelope, Fade as AFade, Lfo as AnLfo, Filter as AFilter, Oscillator as AnOscillator, Noise as ANoise}
use Rattle.generator.specs.declared.Scale.{Scale}
use Rattle.generator.specs.declared.Scale.TheVariants.{Normalised, Turns, Octaves}
use Rattle.generator.specs.declared.Generator.{Generator}

-- What the horizontal covers: an LFO's turns, the span either side of a filter's corner, one turn of an oscillator.
abbrev pub scale_of : Shape → Scale
scale_of (AnEnvelope e) = Normalised
scale_of (AFade f) = Normalised
scale_of (AnLfo l) = Turns l.turns
scale_of (AFilter f) = Octaves (f.span ⊗ bits 0x4000_0000)
scale_of (AnOscillator o) = Turns one₃₂
scale_of (ANoise n) = Normalised

-- The generator of a shape.
unfoldable pub generator_of : Shape → Generator
generator_of s = record { shape = s; scale = scale_of s }

-- The numbers of the scales, and the number that a scale carries.
abbrev pub scale_number : Scale → ℕ
scale_number Normalised = 0
scale_number (Turns x) = 1
scale_number (Octaves x) = 2

abbrev pub scale_value : Scale → Float
scale_value Normalised = zero₃₂
scale_value (Turns x) = x
scale_value (Octaves x) = x

-- 0 decibels in a picture from -48 to 12: 48 / 60
unfoldable pub filter_unity : Float
filter_unity = bits 0x4240_0000 ⊘ bits 0x4270_0000

-- The height where the shape does nothing.
abbrev pub rest_of : Shape → Float
rest_of (AnEnvelope e) = zero₃₂
rest_of (AFade f) = zero₃₂
rest_of (AnLfo l) = cond l.unipolar zero₃₂ half₃₂
rest_of (AFilter f) = filter_unity
rest_of (AnOscillator o) = half₃₂
rest_of (ANoise n) = half₃₂

-- Whether the left edge is a moment.
abbrev pub anchored_of : Shape → Bool
anchored_of (AnEnvelope e) = true
anchored_of (AFade f) = true
anchored_of (AnLfo l) = l.synced
anchored_of (AFilter f) = true
anchored_of (AnOscillator o) = false
anchored_of (ANoise n) = false

-- All the marks of a shape, in their order.
unfoldable pub mark_list : Shape → List Mark
mark_list (AnEnvelope e) = envelope_marks e
mark_list (AFade f) = fade_marks f
mark_list (AnLfo l) = cycles_of l.turns
mark_list (AFilter f) = mark_of half₃₂ Corner ∷ []
mark_list (AnOscillator o) = oscillator_marks o
mark_list (ANoise n) = []

-- What is stored of them.
unfoldable pub marks_of : Shape → Marks
marks_of s = stored (mark_list s)
