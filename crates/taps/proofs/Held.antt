-- A FLOAT OF AN ARRAY IS ONE OF BINARY32: every float of an `[f32; n]` that is a field of a struct fits the format, and so does the NaN that stands for what lies past its end.
-- Assumes nothing.
use mathlib.Core.List.{List, [], ◌∷◌}
use Prim.Native.Nat.{ℕ, zero, suc}
use lib.Dec.{T}
use lib.ListN.{get_or}
use lib.Ieee.{Float, nan, binary32, fits}
use mir.Val.{Val}
use denote.Shadow.{shadow}
use denote.Array.{each}
use denote.Floats.{FloatOf, passes}

pub field_held : (xs : List Float) (us : List Val) (i : ℕ) → shadow (each Float (FloatOf binary32).own_val xs us) → T (fits binary32 (get_or xs i nan))
unfolding fits
field_held [] us i p = tt
field_held (x ∷ xs) [] i p = absurd p
field_held (x ∷ xs) (u ∷ us) zero p = passes (fits binary32 x) p.0.1
field_held (x ∷ xs) (u ∷ us) (suc i) p = field_held xs us i p.1
