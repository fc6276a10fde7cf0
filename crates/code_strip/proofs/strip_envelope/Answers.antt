-- `strip_envelope` fills with the heights of an envelope's shape, by either curve. Assumes nothing.
use mathlib.Core.Path.{sym}
use Rattle.code_shapes.specs.Shapes.{shape_of}
use Rattle.code_strip.proofs.strip_envelope.Goals as goal

pub returns-then-out-lt-WIDE_SAMPLES : goal.returns-then-out-lt-WIDE_SAMPLES
unfolding shape_of
returns-then-out-lt-WIDE_SAMPLES c = simp (sym c.envelope_at.ensures) c.fill_curve.ensures

pub returns : goal.returns
unfolding shape_of
returns c = simp (sym c.envelope_at-2.ensures) c.fill_curve-2.ensures
