-- THE SETTINGS OF AN ENVELOPE, FROM BYTES: docs/SPECIFICATION.md, "Settings". In binary32, one rounding to an operation, in the order written.
-- A byte is a natural number below 256. Definitions only.
use Rattle.std.specs.Prelude.{cond, ℕ, Float}
use Rattle.std.specs.Float.Ieee.{lt}
use Rattle.exact.specs.Binary32.{◌⊕◌, ◌⊖◌, ◌⊗◌, ◌⊘◌, bits, zero₃₂, half₃₂, one₃₂}
use Rattle.bends.specs.Formula.{bend_of}
use Rattle.settings.specs.declared.Envelope.{Envelope}
use Rattle.settings.specs.Settings.{byte_of}

-- The time that a held level is drawn for, 0.5, and the whole width: attack, decay, held, release.
unfoldable pub total_of : ℕ → ℕ → ℕ → Float
total_of a d r = byte_of a ⊕ byte_of d ⊕ half₃₂ ⊕ byte_of r

-- The ends of the attack, of the decay and of the sustain.
unfoldable pub first_of : ℕ → ℕ → ℕ → Float
first_of a d r = byte_of a ⊘ total_of a d r

unfoldable pub second_of : ℕ → ℕ → ℕ → Float
second_of a d r = first_of a d r ⊕ byte_of d ⊘ total_of a d r

unfoldable pub third_of : ℕ → ℕ → ℕ → Float
third_of a d r = second_of a d r ⊕ half₃₂ ⊘ total_of a d r

-- The sustain's slope, (c / 255 - 0.5) * 2, from -1 to 1; and the level that it reaches from s: toward 0 below 0, toward 1 above.
unfoldable pub slope_of : ℕ → Float
slope_of c = (byte_of c ⊖ half₃₂) ⊗ bits 0x4000_0000

unfoldable pub sloped : Float → Float → Float
sloped s k = cond (lt k zero₃₂) (s ⊗ (one₃₂ ⊕ k)) (s ⊕ (one₃₂ ⊖ s) ⊗ k)

unfoldable pub sustain_end_of : ℕ → ℕ → Float
sustain_end_of s c = sloped (byte_of s) (slope_of c)

-- Attack, decay, sustain, release, then their four curves.
unfoldable pub envelope_of : ℕ → ℕ → ℕ → ℕ → ℕ → ℕ → ℕ → ℕ → Envelope
envelope_of a d s r ac dc sc rc =
    record {
      first = first_of a d r;
      second = second_of a d r;
      third = third_of a d r;
      sustain = byte_of s;
      sustain_end = sustain_end_of s sc;
      attack_bend = bend_of ac;
      decay_bend = bend_of dc;
      release_bend = bend_of rc;
    }
