-- THE IMPULSE TRAIN OF A DELAY IN BINARY32: docs/SPECIFICATION.md, "The curves". Each operation is rounded once, in the order written. Definitions only.
use Rattle.std.specs.Prelude.{cond, ℕ, zero, suc, min, get_or, Float}
use Rattle.std.specs.Float.{nan}
use Rattle.std.specs.Float.Ieee.{lt}
use Rattle.exact.specs.Binary32.{◌⊖◌, ◌⊗◌, ◌⊘◌, bits, zero₃₂, one₃₂}
use Rattle.math.specs.Formulas.{abs_of, max_of}
use Rattle.curve.specs.declared.Height.{Height}
use Rattle.curve.specs.Curve.{position_of, drawn_of}
use Rattle.taps.specs.declared.Taps.{Taps}

-- Half the width of a tap: 0.014
abbrev pub tap_width : Float
tap_width = bits 0x3c65_6042

-- The most taps that a delay has.
abbrev pub max_taps : ℕ
max_taps = 4

-- How many taps are used: a number above the most is the most.
abbrev pub used_of : Taps → ℕ
used_of taps = min taps.used max_taps

-- Where tap i falls, and how tall it is; past the arrays, which no use reaches, a NaN.
abbrev pub at_of : Taps → ℕ → Float
at_of taps i = get_or taps.at i nan

abbrev pub tall_of : Taps → ℕ → Float
tall_of taps i = get_or taps.tall i nan

-- A spike: as tall as the tap where it falls, and 0 from `tap_width` on.
abbrev pub spike_of : Float → Float → Float
spike_of tall distance = tall ⊗ (one₃₂ ⊖ distance ⊘ tap_width)

-- A height, or the spike where that is above it: one comparison. No NaN is above a height.
abbrev pub raised_to : Float → Float → Float
raised_to height spike = cond (lt height spike) spike height

-- The height so far with one tap more: the larger of it and the spike, where t is nearer to the tap than `tap_width`.
unfoldable pub tap_height_of : Float → Float → Float → Float → Float
tap_height_of at tall t height = cond (lt (abs_of (t ⊖ at)) tap_width) (max_of height (spike_of tall (abs_of (t ⊖ at)))) height

-- What the code computes for a tap: the same as `tap_height_of` where the height so far is +0 or a number above 0, as it is in every train (`raised_is`, `level_raised` in proofs/Raised).
unfoldable pub tap_raised_of : Float → Float → Float → Float → Float
tap_raised_of at tall t height = cond (lt (abs_of (t ⊖ at)) tap_width) (raised_to height (spike_of tall (abs_of (t ⊖ at)))) height

-- The level of the first i taps: the fold of tapHeightOf over them, from +0 on.
unfoldable pub taps_level_of : Taps → Float → ℕ → Float
taps_level_of taps t zero = zero₃₂
taps_level_of taps t (suc i) = tap_height_of (at_of taps i) (tall_of taps i) t (taps_level_of taps t i)

-- The height of an impulse train.
unfoldable pub taps_height_of : Taps → Float → Height
taps_height_of taps t = drawn_of (taps_level_of taps (position_of t) (used_of taps))
