-- THE LEAST HEIGHT THAT IS NOT TAKEN FOR 0: 2 ^ -33, and its quanta. Assumes nothing.
use mathlib.Core.Path.{refl}
use Prim.Native.Nat.{ℕ, ◌^◌}
use lib.Ieee.{Float, of_bits}
use Rattle.exact.specs.Binary32.{bits}
use Rattle.rounding.proofs.Operations.{Quanta}

abbrev pub least : Float
least = bits 0x2f00_0000

abbrev pub few : ℕ
few = 2 ^ 116

pub least_quanta : Quanta (2 ^ 149) least few 0
unfolding of_bits
least_quanta = refl
