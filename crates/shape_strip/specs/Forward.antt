-- SHAPES THAT ONE WALK CAN SERVE: docs/SPECIFICATION.md, "Strips". Definitions only.
use Rattle.std.specs.Prelude.{Bool, true}
use Rattle.generator.specs.declared.Shape.{Shape}
use Rattle.generator.specs.declared.Shape.TheVariants.{Envelope as AnEnvelope, Fade as AFade, Lfo as AnLfo, Filter as AFilter, Oscillator as AnOscillator, Noise as ANoise}
use Rattle.lfo_strip_once.specs.Once.{forward}

-- An LFO's turns go forward; nothing else has a phase.
unfoldable pub goes_forward : Shape → Bool
goes_forward (AnEnvelope e) = true
goes_forward (AFade f) = true
goes_forward (AnLfo l) = forward l.turns
goes_forward (AFilter f) = true
goes_forward (AnOscillator o) = true
goes_forward (ANoise n) = true
