-- A ROW OF OUTSIDE VALUES: the bits of the input or of the two inputs, then the bits of the result. A NaN is written 0x7fc0_0000. Assumes nothing.
use mathlib.Core.Bool.{Bool}
use Prim.Native.Nat.{ℕ}
use lib.Dec.{eqb}
use lib.Ieee.{Float, binary32, to_bits}
use Rattle.exact.specs.Binary32.{bits}

-- f at the row's input, or at its two, has the row's bits.
unfoldable pub gives : (Float → Float) → ℕ × ℕ → Bool
gives f r = eqb (to_bits binary32 (f (bits r.0))) r.1

unfoldable pub gives_of_two : (Float → Float → Float) → ℕ × ℕ × ℕ → Bool
gives_of_two f r = eqb (to_bits binary32 (f (bits r.0) (bits r.1))) r.2
