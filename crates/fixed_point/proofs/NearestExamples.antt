-- Whole numbers computed from the definition. Assumes nothing.
use mathlib.Core.Path.{◌≡◌, refl}
use lib.Ieee.{of_bits, is_nan, lt}
use Rattle.exact.specs.Value.{value}
use Rattle.exact.specs.Binary32.{bits, one₃₂, half₃₂}
use Rattle.math.specs.Formulas.{clamp_of}
use Rattle.curve.specs.Curve.{position_of}
use Rattle.fixed_point.specs.Nearest.{nearest_of}

top : nearest_of one₃₂ 3000 ≡ 3000
unfolding nearest_of position_of value of_bits is_nan lt clamp_of
top = refl

-- a tie
tie : nearest_of half₃₂ 3001 ≡ 1501
unfolding nearest_of position_of value of_bits is_nan lt clamp_of
tie = refl

-- 0.1 is held as 0.100000001490116..
tenth : nearest_of (bits 0x3dcc_cccd) 1000000000 ≡ 100000001
unfolding nearest_of position_of value of_bits is_nan lt clamp_of
tenth = refl

-- the number next below 1/2: no tie, which a sum in binary32 would make it
below_half : nearest_of (bits 0x3eff_ffff) 1 ≡ 0
unfolding nearest_of position_of value of_bits is_nan lt clamp_of
below_half = refl

-- the smallest number, -1, a NaN, and infinity
smallest : nearest_of (bits 0x0000_0001) 4294967295 ≡ 0
unfolding nearest_of position_of value of_bits is_nan lt clamp_of
smallest = refl

negative : nearest_of (bits 0xbf80_0000) 3000 ≡ 0
unfolding nearest_of position_of value of_bits is_nan lt clamp_of
negative = refl

nothing : nearest_of (bits 0x7fc0_0000) 3000 ≡ 0
unfolding nearest_of position_of value of_bits is_nan lt clamp_of
nothing = refl

beyond : nearest_of (bits 0x7f80_0000) 3000 ≡ 3000
unfolding nearest_of position_of value of_bits is_nan lt clamp_of
beyond = refl
