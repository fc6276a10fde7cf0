-- A BYTE AS A LEVEL: `byte_level` for all 256, by one computed test. Assumes nothing.
use mathlib.Core.Bool.{Bool, false, not, ◌&&◌}
use Prim.Native.Nat.{ℕ, ◌*◌, ◌≤◌, ◌<◌}
use native.Mathlib.Omega.{arith}
use lib.Dec.{T, leb, leb→le}
use lib.Ieee.{Float, nan, inf, fin, binary32, up, down, of_bits, of_int, fits, le, div}
use lib.Ieee.Fits.{and_l, and_r, div-fits}
use lib.Ieee.Positive.{num, den}
use Rattle.exact.specs.Binary32.{bits, zero₃₂, one₃₂}
use Rattle.rounding.proofs.Monotone.{unsigned, cross_le}
use Rattle.lists.proofs.Every.{every, each}
use Rattle.curve.proofs.Positions.{Level}
use Rattle.settings.specs.Settings.{byte_of}

-- ---- a test of a float: it has no sign and is at most 1
unfoldable pub unit : Float → Bool
unit nan = false
unit (inf s) = false
unit (fin s m e) = not s && leb (m * up e) (down e)

pub unit_unsigned : (x : Float) → T (unit x) → T (unsigned x)
unfolding unit
unit_unsigned nan h = h
unit_unsigned (inf s) h = h
unit_unsigned (fin s m e) h = and_l (not s) (leb (m * up e) (down e)) h

pub unit_size : (x : Float) → T (unit x) → num x ≤ den x
unfolding unit
unit_size nan h = absurd h
unit_size (inf s) h = absurd h
unit_size (fin s m e) h = leb→le (m * up e) (down e) (and_r (not s) (leb (m * up e) (down e)) h)

pub from_zero : (x : Float) → T (unsigned x) → T (le zero₃₂ x)
unfolding of_bits
from_zero x u = cross_le zero₃₂ x tt u (nothing (num x) (den x))
  where
    nothing : (n d : ℕ) → 0 * d ≤ n * 1
    nothing n d = omega arith

pub unit_to_one : (x : Float) → T (unit x) → T (le x one₃₂)
unfolding of_bits
unit_to_one x h = cross_le x one₃₂ (unit_unsigned x h) tt (whole (num x) (den x) (unit_size x h))
  where
    whole : (n d : ℕ) → n ≤ d → n * 1 ≤ 1 * d
    whole n d h = omega arith

pub unit_level : (x : Float) → T (fits binary32 x) → T (unit x) → Level x
unit_level x t h = record { holds = t; from = from_zero x (unit_unsigned x h); to = unit_to_one x h }

-- ---- every byte
all_unit : T (every (λ b. unit (byte_of b)) 256)
unfolding every unit byte_of of_bits of_int div
all_unit = tt

pub byte_unit : (b : ℕ) → b < 256 → T (unit (byte_of b))
byte_unit b h = each (λ b. unit (byte_of b)) 256 b all_unit h

pub byte_holds : (b : ℕ) → T (fits binary32 (byte_of b))
unfolding byte_of
byte_holds b = div-fits binary32 (of_int binary32 _) (bits 0x437f_0000)

pub byte_level : (b : ℕ) → b < 256 → Level (byte_of b)
byte_level b h = unit_level (byte_of b) (byte_holds b) (byte_unit b h)
