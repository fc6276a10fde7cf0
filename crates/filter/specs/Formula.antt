-- THE FILTER'S HEIGHT IN BINARY32: docs/SPECIFICATION.md, "The curves". One rounding to an operation, in the order written. Definitions only.
use Rattle.std.specs.Prelude.{cond, Float}
use Rattle.std.specs.Float.Ieee.{neg, lt}
use Rattle.exact.specs.Binary32.{◌⊕◌, ◌⊖◌, ◌⊗◌, ◌⊘◌, bits, half₃₂, one₃₂}
use Rattle.exp2.specs.Formula.{exp2_of}
use Rattle.log2.specs.Formula.{log2_of}
use Rattle.curve.specs.declared.Height.{Height}
use Rattle.curve.specs.Curve.{clamp_unit_of, position_of, drawn_of}
use Rattle.settings.specs.declared.Pass.{Pass}
use Rattle.settings.specs.declared.Pass.TheVariants.{Low, High}
use Rattle.settings.specs.declared.Filter.{Filter}

-- ---- constants
-- 2, 6 and 30
abbrev pub two₃₂ : Float
two₃₂ = bits 0x4000_0000

abbrev pub six₃₂ : Float
six₃₂ = bits 0x40c0_0000

abbrev pub thirty₃₂ : Float
thirty₃₂ = bits 0x41f0_0000

-- -3.0103: half the power, in decibels
abbrev pub half_power₃₂ : Float
half_power₃₂ = bits 0xc040_a8c1

-- 12, -48 and 60: the top of the drawing in decibels, its bottom, and the difference
abbrev pub ceiling_db₃₂ : Float
ceiling_db₃₂ = bits 0x4140_0000

abbrev pub floor_db₃₂ : Float
floor_db₃₂ = bits 0xc240_0000

abbrev pub range_db₃₂ : Float
range_db₃₂ = bits 0x4270_0000

-- ---- octaves from the corner, which is at one half: a high-pass counts them the other way
unfoldable pub mirrored_of : Pass → Float → Float
mirrored_of Low o = o
mirrored_of High o = neg o

unfoldable pub octaves_of : Filter → Float → Float
octaves_of f t = mirrored_of f.pass ((t ⊖ half₃₂) ⊗ two₃₂ ⊗ f.span)

-- ---- the roll-off
-- twice the poles, 6 decibels to an octave being one
unfoldable pub twice_poles_of : Float → Float
twice_poles_of slope = two₃₂ ⊗ (slope ⊘ six₃₂)

-- the exponent of the squared term
unfoldable pub squared_of : Filter → Float → Float
unfolding twice_poles_of
squared_of f o = twice_poles_of f.slope ⊗ o

-- the logarithm of 1 + 2 ^ s: above 30 it is s itself
unfoldable pub log_of : Float → Float
log_of s = cond (lt thirty₃₂ s) s (log2_of (one₃₂ ⊕ exp2_of s))

-- ---- the resonant peak, which narrows as it grows
unfoldable pub distance_of : Filter → Float → Float
distance_of f o = o ⊗ (two₃₂ ⊕ f.resonance ⊗ six₃₂)

unfoldable pub peak_of : Filter → Float → Float
peak_of f d = f.resonance ⊗ ceiling_db₃₂ ⊘ (one₃₂ ⊕ d ⊗ d)

-- ---- the level, of a logarithm and a peak, and of a position; and the height
unfoldable pub scaled_of : Float → Float → Float
scaled_of log peak = (half_power₃₂ ⊗ log ⊕ peak ⊖ floor_db₃₂) ⊘ range_db₃₂

unfoldable pub filter_level_of : Filter → Float → Float
filter_level_of f t = clamp_unit_of (scaled_of (log_of (squared_of f (octaves_of f t))) (peak_of f (distance_of f (octaves_of f t))))

unfoldable pub filter_height_of : Filter → Float → Height
filter_height_of f t = drawn_of (filter_level_of f (position_of t))
