-- THE LFO'S SHAPES IN BINARY32: docs/SPECIFICATION.md, "The curves". Each is a function of the phase, a number of cycles; each operation is rounded once, in the
-- order written. Definitions only.
use Rattle.std.specs.Prelude.{cond, ◌&&◌, List, [], ◌∷◌, get_or, Float}
use Rattle.std.specs.Float.Ieee.{lt, le, to_unsigned}
use Rattle.exact.specs.Binary32.{◌⊕◌, ◌⊖◌, ◌⊗◌, ◌⊘◌, bits, zero₃₂, half₃₂, one₃₂}
use Rattle.math.specs.Formulas.{clamp_of}
use Rattle.floor.specs.Formula.{floor_of, fract_of}
use Rattle.sine.specs.Formula.{sin_turns_of}
use Rattle.settings.specs.declared.LfoShape.{LfoShape}
use Rattle.settings.specs.declared.LfoShape.TheVariants.{Sine, Triangle, Square, RampUp, RampDown, SampleAndHold, SampleAndGlide}

-- 2, 7 and 8
abbrev pub two₃₂ : Float
two₃₂ = bits 0x4000_0000

abbrev pub seven₃₂ : Float
seven₃₂ = bits 0x40e0_0000

abbrev pub eight₃₂ : Float
eight₃₂ = bits 0x4100_0000

-- ---- where a phase falls within its cycle
-- Its part above the floor, and 1 where the phase is above 0 and whole: the end of a cycle is not the start of the next.
unfoldable pub wrap_of : Float → Float
wrap_of p = cond (lt zero₃₂ p && le (fract_of p) zero₃₂) one₃₂ (fract_of p)

-- ---- the samples: 0.72, 0.18, 0.95, 0.41, 0.08, 0.63, 0.31, 0.86
unfoldable pub samples : List Float
samples = bits 0x3f38_51ec ∷ bits 0x3e38_51ec ∷ bits 0x3f73_3333 ∷ bits 0x3ed1_eb85 ∷ bits 0x3da3_d70a ∷ bits 0x3f21_47ae ∷ bits 0x3e9e_b852 ∷ bits 0x3f5c_28f6 ∷ []

-- The sample that an index names, clamped to 0..7 and cut to a whole number. A NaN names the first.
unfoldable pub sample_of : Float → Float
sample_of x = get_or samples (to_unsigned 64 (clamp_of zero₃₂ seven₃₂ x)) half₃₂

-- A cycle's number less the eights below it.
unfoldable pub index_of : Float → Float
index_of c = c ⊖ floor_of (c ⊘ eight₃₂) ⊗ eight₃₂

-- The sample of the cycle that a phase falls in.
unfoldable pub sampled_of : Float → Float
sampled_of p = sample_of (index_of (floor_of p))

-- ---- the shapes
unfoldable pub sine_of : Float → Float
sine_of p = half₃₂ ⊕ half₃₂ ⊗ sin_turns_of p

unfoldable pub triangle_of : Float → Float
triangle_of p = cond (lt (wrap_of p) half₃₂) (wrap_of p ⊗ two₃₂) (two₃₂ ⊖ wrap_of p ⊗ two₃₂)

unfoldable pub square_of : Float → Float
square_of p = cond (lt (wrap_of p) half₃₂) one₃₂ zero₃₂

unfoldable pub ramp_up_of : Float → Float
ramp_up_of p = wrap_of p

unfoldable pub ramp_down_of : Float → Float
ramp_down_of p = one₃₂ ⊖ wrap_of p

-- From the sample of the cycle before to that of this cycle.
unfoldable pub glide_of : Float → Float
glide_of p = sampled_of (p ⊖ one₃₂) ⊕ (sampled_of p ⊖ sampled_of (p ⊖ one₃₂)) ⊗ fract_of p

-- A shape's level at a phase, with no limit on its slope.
unfoldable pub shape_at_of : LfoShape → Float → Float
shape_at_of Sine p = sine_of p
shape_at_of Triangle p = triangle_of p
shape_at_of Square p = square_of p
shape_at_of RampUp p = ramp_up_of p
shape_at_of RampDown p = ramp_down_of p
shape_at_of SampleAndHold p = sampled_of p
shape_at_of SampleAndGlide p = glide_of p
