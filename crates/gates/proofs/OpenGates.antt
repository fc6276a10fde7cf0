-- A GATE TIME IS 0 JUST WHERE ITS BYTE IS: the open part of a step, byte / 255, is above 0 for every other byte. Computed over all bytes. Assumes nothing.
use mathlib.Core.Path.{◌≡◌, refl}
use mathlib.Core.Bool.{Bool, true, false, not, cond}
use Prim.Native.Nat.{ℕ, ◌<◌}
use lib.Dec.{T, eqb}
use lib.Ieee.{of_bits, of_int, div, le}
use Rattle.exact.specs.Binary32.{zero₃₂}
use Rattle.lists.proofs.Every.{every, each}
use Rattle.settings.specs.Settings.{byte_of}

-- Two answers that are the same.
unfoldable pub alike : Bool → Bool → Bool
alike a b = cond b a (not a)

pub alike_equal : (a b : Bool) → T (alike a b) → a ≡ b
unfolding alike
alike_equal true true h = refl
alike_equal false false h = refl
alike_equal true false h = absurd h
alike_equal false true h = absurd h

pub no_gate_at_zero : (b : ℕ) → b < 256 → le (byte_of b) zero₃₂ ≡ eqb b 0
unfolding every alike byte_of of_bits of_int div le
no_gate_at_zero b l = alike_equal (le (byte_of b) zero₃₂) (eqb b 0) (each (λ n. alike (le (byte_of n) zero₃₂) (eqb n 0)) 256 b tt l)
