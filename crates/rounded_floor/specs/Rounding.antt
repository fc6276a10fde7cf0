-- THE FLOOR BY ROUNDING: docs/SPECIFICATION.md, "The floor on paper". Each operation is rounded once, in the order written. Definitions only.
use Rattle.std.specs.Prelude.{Bool, cond, ◌&&◌, Float}
use Rattle.std.specs.Float.Ieee.{lt, neg}
use Rattle.exact.specs.Binary32.{◌⊕◌, ◌⊖◌, bits, zero₃₂, one₃₂}

-- 2 to the powers 22 and 23, and the middle between the latter and its double. From 2 to the power 23 on a float has no fraction.
abbrev pub near : Float
near = bits 0x4a80_0000

abbrev pub whole : Float
whole = bits 0x4b00_0000

abbrev pub centre : Float
centre = bits 0x4b40_0000

-- A whole number less than 1 away from an x between -2 to the power 23 and that: the sum with it, by the sign of x, is rounded to a whole number.
abbrev pub nearby_of : Float → Float
nearby_of x = cond (lt x zero₃₂) (x ⊖ whole ⊕ whole) (x ⊕ whole ⊖ whole)

-- What leads from such a number y to the largest not above x: -1 where x is below y, otherwise +0.
abbrev pub step_down_of : Float → Float → Float
step_down_of x y = cond (lt x y) (neg one₃₂) zero₃₂

abbrev pub stepped_down : Float → Float → Float
stepped_down x y = y ⊕ step_down_of x y

-- Whether x lies between -w and w.
abbrev pub between : Float → Float → Bool
between x w = lt x w && lt (neg w) x

-- Near 0 the sum with the centre does for either sign. From 2 to the power 23 on, x itself; a NaN and the infinities too.
unfoldable pub by_rounding : Float → Float
by_rounding x = cond (between x near) (stepped_down x (x ⊕ centre ⊖ centre)) (cond (between x whole) (stepped_down x (nearby_of x)) x)
