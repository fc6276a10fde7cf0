-- AN LFO'S HEIGHT BY ITS SLEW. Assumes nothing.
use mathlib.Core.Path.{◌≡◌}
use mathlib.Core.Bool.{true, false}
use lib.Ieee.{Float, le}
use Rattle.exact.specs.Binary32.{◌⊗◌, zero₃₂}
use Rattle.curve.specs.Curve.{clamp_unit_of, position_of, drawn_of}
use Rattle.settings.specs.declared.Lfo.{Lfo}
use Rattle.lfo_shapes.specs.Formula.{shape_at_of}
use Rattle.lfo.specs.Formula.{slewed_of, lfo_height_of}
use Rattle.generator.specs.declared.Shape.TheVariants.{Lfo as AnLfo}
use Rattle.shape_heights.specs.Heights.{height_of}

module _ (l : Lfo) (t : Float) where
  pub without_slew : le l.slew zero₃₂ ≡ true → position_of t ≡ t → clamp_unit_of (shape_at_of l.shape (t ⊗ l.turns)) ≡ (height_of (AnLfo l) t).height
  unfolding height_of lfo_height_of drawn_of
  without_slew h p = simp (h, p)

  pub with_slew : le l.slew zero₃₂ ≡ false → slewed_of l t ≡ height_of (AnLfo l) t
  unfolding height_of lfo_height_of
  with_slew h = simp h
