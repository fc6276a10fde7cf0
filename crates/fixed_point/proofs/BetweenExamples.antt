-- Verdicts computed from the definition. Assumes nothing.
use mathlib.Core.Path.{◌≡◌, refl}
use mathlib.Core.Bool.{true, false}
use Prim.Native.Nat.{◌+◌, ◌-◌, ◌^◌}
use lib.Ieee.{of_bits, le}
use Rattle.exact.specs.Value.{value}
use Rattle.exact.specs.Binary32.{bits, half₃₂, one₃₂}
use Rattle.fixed_point.specs.Between.{between_of, within_of}

-- 1/2 is 2^31 units, no more and no less
half : within_of half₃₂ (2 ^ 31) (2 ^ 31) ≡ true
unfolding within_of between_of value of_bits le
half = refl

half_too_low : within_of half₃₂ (2 ^ 31 + 1) (2 ^ 32) ≡ false
unfolding within_of between_of value of_bits le
half_too_low = refl

half_too_high : within_of half₃₂ 0 (2 ^ 31 - 1) ≡ false
unfolding within_of between_of value of_bits le
half_too_high = refl

-- half a unit lies from 0 to 1 of them, and at neither
half_unit : within_of (bits 0x2f00_0000) 0 1 ≡ true
unfolding within_of between_of value of_bits le
half_unit = refl

half_unit_too_low : within_of (bits 0x2f00_0000) 1 1 ≡ false
unfolding within_of between_of value of_bits le
half_unit_too_low = refl

-- the smallest number is above 0, and -0 is 0
smallest_too_high : within_of (bits 0x0000_0001) 0 0 ≡ false
unfolding within_of between_of value of_bits le
smallest_too_high = refl

minus_zero : within_of (bits 0x8000_0000) 0 0 ≡ true
unfolding within_of between_of value of_bits le
minus_zero = refl

-- 1 is 2^32 units; the number next above it, and a NaN, are no heights
top : within_of one₃₂ (2 ^ 32) (2 ^ 32) ≡ true
unfolding within_of between_of value of_bits le
top = refl

above_top : within_of (bits 0x3f80_0001) 0 (2 ^ 33) ≡ false
unfolding within_of between_of value of_bits le
above_top = refl

nothing : within_of (bits 0x7fc0_0000) 0 (2 ^ 32) ≡ false
unfolding within_of between_of value of_bits le
nothing = refl

nowhere : between_of (bits 0x7fc0_0000) 0 (2 ^ 32) ≡ false
unfolding between_of of_bits
nowhere = refl
