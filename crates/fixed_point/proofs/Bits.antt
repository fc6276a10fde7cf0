-- THE BITS OF A LEVEL: its quanta, and between which patterns it lies from 2 ^ -33 on. Assumes nothing.
use mathlib.Core.Path.{◌≡◌}
use Prim.Native.Nat.{ℕ, ◌+◌, ◌-◌, ◌*◌, ◌/◌, ◌%◌, ◌^◌, ◌≤◌, ◌<◌}
use native.Mathlib.Nat.{lt_of_le_of_lt, mul-le-mul_right, le_of_mul-le-mul_right}
use native.Mathlib.Omega.{arith}
use lib.Dec.{T}
use lib.IntN.{pos}
use lib.Pow.{pow-lt}
use lib.Ieee.{Float, binary32, of_bits, to_bits, fits, le}
use lib.Ieee.Scale.{finite}
use Rattle.exact.specs.Fraction.{ratio, whole, ◌≤ℚ◌}
use Rattle.exact.specs.Value.{value}
use Rattle.exact.specs.Binary32.{zero₃₂, one₃₂}
use Rattle.exact.proofs.Parts.{num⁺, num⁻}
use Rattle.exact.proofs.Order.{le_value, ≤ℚ-parts}
use Rattle.rounding.proofs.Operations.{Quanta}
use Rattle.rounding.proofs.Quanta.{in_format, nonnegative_quanta, quanta_defined, quanta_value}
use Rattle.math.proofs.Bits.{Between, bits_between, bits_quanta as quanta-by-bits}
use Rattle.curve.proofs.Positions.{Level, level_finite}

-- ---- the quanta of a float from 0 to 1
pub record Parts (p : Float) : Type 0 where
  pub quanta : ℕ
  pub holds : Quanta (2 ^ 149) p quanta 0
  pub most : quanta ≤ 2 ^ 149

from_zero : (p : Float) → T (finite p) → T (le zero₃₂ p) → whole (pos 0) ≤ℚ value p
unfolding value of_bits
from_zero p f h = (le_value zero₃₂ p tt f).0 h

to_one : (p : Float) → T (finite p) → T (le p one₃₂) → value p ≤ℚ ratio 1 1
unfolding value of_bits
to_one p f h = (le_value p one₃₂ f tt).0 h

at_most : (P N D G U : ℕ) → 0 < D → P * U + 0 * D ≡ N * U + G * D → P * 1 + 0 * D ≤ 1 * D + N * 1 → G ≤ U
at_most P N D G U d e h = le_of_mul-le-mul_right {k = D} (omega (arith, mul-le-mul_right U h)) d

pub level_parts : (p : Float) → Level p → Parts p
level_parts p l =
    let f = level_finite p l in
    let w = in_format binary32 p l.holds f in
    let g = w.significand * 2 ^ w.shift in
    let q = nonnegative_quanta binary32 p w (from_zero p f l.from) in
    let a = value p in
    record {
      quanta = g;
      holds = q;
      most = at_most (num⁺ a) (num⁻ a) a.den g (2 ^ 149) (quanta_defined (2 ^ 149) p g 0 q) (quanta_value (2 ^ 149) p g 0 q) (≤ℚ-parts a (ratio 1 1) (to_one p f l.to));
    }

-- ---- the bits of a float of g quanta, from 2 ^ -33 to 1
abbrev pub Range : ℕ → Type 0
Range = Between 116 150

pub bits_range : (x : Float) (g : ℕ) → Quanta (2 ^ 149) x g 0 → 2 ^ 116 ≤ g → g ≤ 2 ^ 149 → Range (to_bits binary32 x)
bits_range x g h l u = bits_between 116 150 (omega arith) x g h l (lt_of_le_of_lt u (pow-lt {i = 149} {j = 150} (omega arith)))

pub bits_quanta : (x : Float) → T (fits binary32 x) → Range (to_bits binary32 x) → Quanta (2 ^ 149) x ((2 ^ 23 + to_bits binary32 x % 2 ^ 23) * 2 ^ (to_bits binary32 x / 2 ^ 23 - 1)) 0
bits_quanta x f r = quanta-by-bits x f (omega (arith, r.low)) (omega (arith, r.high))
