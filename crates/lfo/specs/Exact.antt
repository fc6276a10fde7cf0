-- THE EXACT HEIGHT OF AN LFO: docs/SPECIFICATION.md, "Exact heights". The phase and the slew are the numbers that their floats hold. Definitions only.
use Rattle.std.specs.Prelude.{cond, Float}
use Rattle.std.specs.Float.Ieee.{le}
use Rattle.exact.specs.Fraction.{Fraction, given, clamp_unitℚ}
use Rattle.exact.specs.Value.{value}
use Rattle.exact.specs.Binary32.{zero₃₂}
use Rattle.settings.specs.declared.Lfo.{Lfo}
use Rattle.lfo_shapes.specs.Exact.{shapeℚ}
use Rattle.walk.specs.Formula.{full_steps}
use Rattle.walk.specs.Exact.{limitℚ, cut_afterℚ}
use Rattle.lfo.specs.Formula.{phase_of}

-- The exact height of an LFO: the shape itself at slew 0. No place reaches a phase that has no value, and then the walk has
-- none either.
unfoldable pub lfo_heightℚ : Lfo → Float → Fraction
lfo_heightℚ l t =
    cond (le l.slew zero₃₂)
    (clamp_unitℚ (shapeℚ l.shape (value (phase_of l t))))
    (clamp_unitℚ (given (value (phase_of l t)).den (cut_afterℚ l.shape (limitℚ (value l.slew)) (phase_of l t) (full_steps (phase_of l t)))))
