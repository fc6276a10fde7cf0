-- STRIPS HELD AGAINST NUMBERS FROM OUTSIDE: positions rounded to binary32, lengths and heights of docs/SPECIFICATION.md. Assumes nothing.
use mathlib.Core.Path.{◌≡◌, refl, ap, ◌∙◌}
use mathlib.Core.Bool.{Bool, true, not, ◌&&◌}
use mathlib.Core.List.{List, [], ◌∷◌}
use Prim.Native.Nat.{ℕ, suc, ◌+◌}
use native.Mathlib.Omega.{arith}
use lib.Dec.{T, lit≤, eqb}
use lib.Ieee.{Float, binary32, of_bits, to_bits, of_int, is_nan, lt, le, eq, neg, add, sub, mul, div}
use Rattle.exact.specs.Value.{value}
use Rattle.exact.specs.Binary32.{◌⊗◌, zero₃₂, half₃₂, one₃₂}
use Rattle.math.specs.Formulas.{clamp_of}
use Rattle.floor.specs.Formula.{floor_of, fract_of}
use Rattle.lists.proofs.Rows.{all_pass}
use Rattle.curve.specs.Curve.{position_of, drawn_of}
use Rattle.settings.specs.Settings.{byte_of, lfo_shape_of, lfo_of}
use Rattle.lfo_shapes.specs.Formula.{wrap_of, triangle_of, shape_at_of}
use Rattle.walk.specs.Formula.{step_of, place_of, full_steps, walked_of}
use Rattle.walk.proofs.Steps.{steps_to_place}
use Rattle.lfo.specs.Formula.{lfo_height_of}
use Rattle.generator.specs.declared.Shape.{Shape}
use Rattle.generator.specs.declared.Shape.TheVariants.{Lfo as AnLfo}
use Rattle.shape_heights.specs.Heights.{height_of}
use Rattle.strip.specs.Strip.{sample_position, sample_of, length_fits, step_sum, steps_of, strip_of}
use Rattle.lists.specs.Written.{written}

-- ---- sample i of n, and the bits of its position
placed : ℕ × ℕ × ℕ → Bool
placed r = eqb (to_bits binary32 (sample_position r.0 r.1)) r.2

places : List (ℕ × ℕ × ℕ)
places =
    (2, 0, 0x0000_0000) ∷ (2, 1, 0x3f80_0000) ∷ (3, 1, 0x3f00_0000) ∷ (4, 1, 0x3eaa_aaab) ∷ (4, 2, 0x3f2a_aaab) ∷ (1000, 333, 0x3eaa_aaab)
    ∷ (4096, 1, 0x3980_0801) ∷ (4096, 2048, 0x3f00_0801) ∷ (4096, 4094, 0x3f7f_efff) ∷ (4096, 4095, 0x3f80_0000) ∷ []

places_known : T (all_pass placed places)
unfolding all_pass placed places sample_position to_bits of_bits of_int div
places_known = tt

lengths_known : T (not (length_fits 1) && length_fits 2 && length_fits 4096 && not (length_fits 4097))
lengths_known = tt

-- ---- a triangle's five samples
triangle : ℕ → Shape
triangle slew = AnLfo (lfo_of 1 slew 0 true)

triangle_strip : strip_of (triangle 0) (one₃₂ ∷ one₃₂ ∷ one₃₂ ∷ one₃₂ ∷ one₃₂ ∷ []) ≡ zero₃₂ ∷ half₃₂ ∷ one₃₂ ∷ half₃₂ ∷ zero₃₂ ∷ []
unfolding triangle strip_of written height_of lfo_height_of drawn_of shape_at_of triangle_of wrap_of position_of sample_position sample_of clamp_of floor_of fract_of value lfo_of lfo_shape_of byte_of to_bits of_bits of_int is_nan lt le eq neg add sub mul div
triangle_strip = refl

-- The walk to phase 0 has 96 steps, that to phase 1 has 192.
two_walks : (x y : Float) → x ≡ place_of 96 → y ≡ place_of 192 → 0 + suc (full_steps x) + suc (full_steps y) ≡ 288
two_walks x y a b =
    let zero : suc (full_steps x) ≡ 96 = ap (λ (p : Float). suc (full_steps p)) a ∙ steps_to_place 96 (lit≤ tt) (lit≤ tt) in
    let one : suc (full_steps y) ≡ 192 = ap (λ (p : Float). suc (full_steps p)) b ∙ steps_to_place 192 (lit≤ tt) (lit≤ tt) in
    omega (arith, zero, one)

slewed_steps : steps_of (triangle 1) 2 ≡ 288
unfolding triangle steps_of step_sum height_of lfo_height_of walked_of place_of step_of drawn_of position_of sample_position sample_of clamp_of lfo_of lfo_shape_of byte_of to_bits of_bits of_int is_nan lt le eq neg add sub mul div
slewed_steps = two_walks (position_of (sample_position 2 0) ⊗ one₃₂) (position_of (sample_position 2 1) ⊗ one₃₂) refl refl
