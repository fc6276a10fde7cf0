-- THE HEIGHT OF AN LFO IN BINARY32: docs/SPECIFICATION.md, "The curves". Each operation is rounded once, in the order written. Definitions only.
use Rattle.std.specs.Prelude.{cond, Float}
use Rattle.std.specs.Float.Ieee.{le}
use Rattle.exact.specs.Binary32.{◌⊗◌, zero₃₂}
use Rattle.curve.specs.declared.Height.{Height}
use Rattle.curve.specs.Curve.{position_of, drawn_of}
use Rattle.settings.specs.declared.Lfo.{Lfo}
use Rattle.lfo_shapes.specs.Formula.{shape_at_of}
use Rattle.walk.specs.Formula.{walked_of}

-- The phase of an LFO at any f32: its position times the turns.
abbrev pub phase_of : Lfo → Float → Float
phase_of l t = position_of t ⊗ l.turns

-- The height of an LFO without slew, the shape itself, and of one with slew.
abbrev pub unslewed_of : Lfo → Float → Height
unslewed_of l t = drawn_of (shape_at_of l.shape (phase_of l t))

abbrev pub slewed_of : Lfo → Float → Height
slewed_of l t = walked_of l (phase_of l t)

-- The height of an LFO. One that is not slewed has no steps.
unfoldable pub lfo_height_of : Lfo → Float → Height
lfo_height_of l t = cond (le l.slew zero₃₂) (unslewed_of l t) (slewed_of l t)
