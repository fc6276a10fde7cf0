-- THE DEFINITIONS HELD AGAINST THE RUST: heights, by their bits, and steps, computed. Assumes nothing.
use mathlib.Core.Bool.{Bool, false, ◌&&◌}
use mathlib.Core.List.{List, [], ◌∷◌}
use Prim.Native.Nat.{ℕ}
use lib.Dec.{T, eqb}
use lib.Ieee.{binary32, of_bits, to_bits, of_int, neg, add, sub, mul, div, lt, le, eq, is_nan, to_unsigned}
use Rattle.exact.specs.Binary32.{bits}
use Rattle.exact.specs.Value.{value}
use Rattle.lists.proofs.Rows.{all_pass}
use Rattle.math.specs.Formulas.{min_of, clamp_of}
use Rattle.floor.specs.Formula.{floor_of, fract_of}
use Rattle.curve.specs.Curve.{position_of, drawn_of}
use Rattle.settings.specs.Settings.{byte_of, lfo_shape_of, lfo_of}
use Rattle.lfo_shapes.specs.Formula.{wrap_of, square_of, samples, sample_of, index_of, sampled_of, shape_at_of}
use Rattle.walk.specs.Formula.{step_of, place_of, limit_of, moved_of, level_after, cut_after, full_from, full_steps, walked_of}
use Rattle.lfo.specs.Formula.{lfo_height_of}

-- The LFO of a shape's and a slew's byte, at the position of bits t, has the height of bits h after k steps: a row is these five.
gives : ℕ × ℕ × ℕ × ℕ × ℕ → Bool
gives r = let y = lfo_height_of (lfo_of r.0 r.1 0 false) (bits r.2) in eqb (to_bits binary32 y.height) r.3 && eqb y.steps r.4

-- a square at 0, and at 0.25 with the most slew; a held sample at 0
rows : List (ℕ × ℕ × ℕ × ℕ × ℕ)
rows = (2, 77, 0x0000_0000, 0x3d8d_4c54, 96) ∷ (2, 255, 0x3e80_0000, 0x3f05_5554, 120) ∷ (5, 255, 0x0000_0000, 0x3f56_d3a2, 96) ∷ []

heights_agree : T (all_pass gives rows)
unfolding all_pass gives rows lfo_height_of walked_of full_steps full_from cut_after level_after moved_of limit_of place_of step_of shape_at_of square_of wrap_of sampled_of index_of sample_of samples lfo_of lfo_shape_of byte_of position_of drawn_of min_of clamp_of floor_of fract_of value of_bits to_bits of_int neg add sub mul div lt le eq is_nan to_unsigned
heights_agree = tt
