-- THE NOISE IN BINARY32: docs/SPECIFICATION.md, "The curves". Each operation is rounded once, in the order written. A level is what a curve comes to at a position from 0
-- to 1, before the last clamp. Definitions only.
use Rattle.std.specs.Prelude.{Float}
use Rattle.exact.specs.Binary32.{◌⊕◌, ◌⊖◌, ◌⊗◌, bits, half₃₂}
use Rattle.floor.specs.Formula.{fract_of}
use Rattle.sine.specs.Formula.{sin_turns_of}
use Rattle.curve.specs.declared.Height.{Height}
use Rattle.curve.specs.Curve.{position_of, drawn_of}
use Rattle.settings.specs.declared.Noise.{Noise}

-- A fixed scatter of 0 to 1: what 1013 times a sine of 89 turns, raised by 1.5, has above its floor.
unfoldable pub noise_at_of : Float → Float
noise_at_of t = fract_of ((sin_turns_of (t ⊗ bits 0x42b2_0000) ⊕ bits 0x3fc0_0000) ⊗ bits 0x447d_4000)

-- The scatter at its level, about 0.5.
unfoldable pub noise_level_of : Noise → Float → Float
noise_level_of n t = half₃₂ ⊕ (noise_at_of t ⊖ half₃₂) ⊗ n.level

unfoldable pub noise_height_of : Noise → Float → Height
noise_height_of n t = drawn_of (noise_level_of n (position_of t))
