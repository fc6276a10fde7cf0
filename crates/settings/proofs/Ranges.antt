-- WHAT THE SETTINGS OF A BLOCK SATISFY: all that the bounds of the curves use of them. Records only; that every byte gives such settings is proved beside.
use mathlib.Core.Path.{◌≡◌}
use lib.Dec.{T}
use lib.Ieee.{Float, binary32, fits, lt, le}
use Rattle.exact.specs.Binary32.{bits, zero₃₂, quarter₃₂, one₃₂}
use Rattle.curve.proofs.Positions.{Level}
use Rattle.settings.specs.declared.Envelope.{Envelope}
use Rattle.settings.specs.declared.SampledTurns.{SampledTurns}
use Rattle.settings.specs.declared.Lfo.{Lfo}
use Rattle.settings.specs.declared.Fade.{Fade}
use Rattle.settings.specs.declared.Filter.{Filter}
use Rattle.settings.specs.declared.Oscillator.{Oscillator}
use Rattle.settings.specs.declared.Noise.{Noise}
use Rattle.settings.specs.Settings.{turns_of}

-- a float of binary32 from 1/4 to 4
pub record BendRange (k : Float) : Type 0 where
  pub holds : T (fits binary32 k)
  pub from : T (le quarter₃₂ k)
  pub to : T (le k (bits 0x4080_0000))

-- The ends are in order, from 0 to at most 2: the third may pass 1, by rounding.
pub record EnvelopeRange (e : Envelope) : Type 0 where
  pub first_holds : T (fits binary32 e.first)
  pub second_holds : T (fits binary32 e.second)
  pub third_holds : T (fits binary32 e.third)
  pub from : T (le zero₃₂ e.first)
  pub first_second : T (le e.first e.second)
  pub second_third : T (le e.second e.third)
  pub to : T (le e.third (bits 0x4000_0000))
  pub sustain : Level e.sustain
  pub sustain_end : Level e.sustain_end
  pub attack : BendRange e.attack_bend
  pub decay : BendRange e.decay_bend
  pub release : BendRange e.release_bend

-- at n turns of the sampled shapes
pub record LfoRange (n : SampledTurns) (l : Lfo) : Type 0 where
  pub slew : Level l.slew
  pub turns : l.turns ≡ turns_of n l.shape

-- The rise ends below 1.
pub record FadeRange (f : Fade) : Type 0 where
  pub end : Level f.end
  pub before : T (lt f.end one₃₂)

-- 6, 12 or 24 decibels to an octave
pub data Slope (x : Float) : Type 0 where
  six : x ≡ bits 0x40c0_0000 → Slope x
  twelve : x ≡ bits 0x4140_0000 → Slope x
  twenty_four : x ≡ bits 0x41c0_0000 → Slope x

-- Over three octaves to either side.
pub record FilterRange (f : Filter) : Type 0 where
  pub slope : Slope f.slope
  pub resonance : Level f.resonance
  pub span : f.span ≡ bits 0x4040_0000

pub record OscillatorRange (o : Oscillator) : Type 0 where
  pub width : Level o.width
  pub sweep : Level o.sweep
  pub level : Level o.level

pub record NoiseRange (n : Noise) : Type 0 where
  pub level : Level n.level
