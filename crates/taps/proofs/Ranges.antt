-- WHAT THE TAPS OF A DELAY SATISFY: all that the bound of their height uses of them. A record only.
use Prim.Native.Nat.{ℕ, ◌<◌}
use lib.Dec.{T}
use lib.Ieee.{binary32, fits}
use lib.Ieee.Scale.{finite}
use Rattle.curve.proofs.Positions.{Level}
use Rattle.taps.specs.declared.Taps.{Taps}
use Rattle.taps.specs.Formula.{used_of, at_of, tall_of}

-- Every tap that is used falls at a number, and its height is a number from 0 to 1; the others may hold anything.
pub record TapsRange (taps : Taps) : Type 0 where
  pub holds : (i : ℕ) → i < used_of taps → T (fits binary32 (at_of taps i))
  pub at : (i : ℕ) → i < used_of taps → T (finite (at_of taps i))
  pub tall : (i : ℕ) → i < used_of taps → Level (tall_of taps i)
