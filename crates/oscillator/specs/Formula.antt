-- THE OSCILLATOR IN BINARY32: docs/SPECIFICATION.md, "The curves". Each operation is rounded once, in the order written. A level is what a curve comes to at a position from 0
-- to 1, before the last clamp. Definitions only.
use Rattle.std.specs.Prelude.{Bool, cond, ℕ, ◌+◌, eqb, pos, Float}
use Rattle.std.specs.Float.{binary32}
use Rattle.std.specs.Float.Ieee.{of_int, neg, lt}
use Rattle.exact.specs.Binary32.{◌⊕◌, ◌⊖◌, ◌⊗◌, ◌⊘◌, bits, zero₃₂, half₃₂, one₃₂}
use Rattle.curve.specs.declared.Height.{Height}
use Rattle.curve.specs.Curve.{position_of, drawn_of}
use Rattle.settings.specs.declared.Oscillator.{Oscillator}

-- A saw, from -1 at 0 to 1 at 1, and a pulse, 1 below its width and -1 from there on.
unfoldable pub saw_of : Float → Float
saw_of t = t ⊗ bits 0x4000_0000 ⊖ one₃₂

unfoldable pub pulse_of : Float → Float → Float
pulse_of width t = cond (lt t width) one₃₂ (neg one₃₂)

-- a wave is added to the sum where it is on
unfoldable pub added_of : Bool → Float → Float → Float
added_of on sum wave = cond on (sum ⊕ wave) sum

-- The waves' sum, from +0 on.
unfoldable pub sum_of : Oscillator → Float → Float
sum_of o t = added_of o.pulse (added_of o.saw zero₃₂ (saw_of t)) (pulse_of o.width t)

-- How many waves are on.
unfoldable pub waves_of : Oscillator → ℕ
waves_of o = cond o.saw 1 0 + cond o.pulse 1 0

-- The mean of the waves that are on, at its level, about 0.5. With none on it is 0.5.
unfoldable pub oscillator_level_of : Oscillator → Float → Float
oscillator_level_of o t = cond (eqb (waves_of o) 0) half₃₂ (half₃₂ ⊕ half₃₂ ⊗ o.level ⊗ sum_of o t ⊘ of_int binary32 (pos (waves_of o)))

unfoldable pub oscillator_height_of : Oscillator → Float → Height
oscillator_height_of o t = drawn_of (oscillator_level_of o (position_of t))
