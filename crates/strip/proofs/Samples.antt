-- EVERY SAMPLE OF A STRIP: it lies at a float, a strip keeps its length, and where that fits each sample is the height at its own position. Assumes nothing.
use mathlib.Core.Path.{◌≡◌, refl}
use mathlib.Core.Bool.{Bool, true, false, cond}
use mathlib.Core.List.{List}
use Prim.Native.Nat.{ℕ, ◌<◌}
use native.Mathlib.Omega.{arith}
use lib.Dec.{T}
use lib.IntN.{pos}
use lib.ListN.{length, get_or}
use lib.Ieee.{Float, nan, binary32, of_int, fits}
use lib.Ieee.Fits.{div-fits}
use Rattle.generator.specs.declared.Shape.{Shape}
use Rattle.shape_heights.specs.Heights.{height_of}
use Rattle.strip.specs.Strip.{sample_position, length_fits, filled_of, strip_of}
use Rattle.strip.proofs.Laws.{filled_length, filled_at}

-- The position of a sample is a float.
pub sample_fits : (n i : ℕ) → T (fits binary32 (sample_position n i))
unfolding sample_position
sample_fits n i = div-fits binary32 (of_int binary32 (pos i)) _

pub strip_length : (s : Shape) (xs : List Float) → length (strip_of s xs) ≡ length xs
unfolding strip_of
strip_length s xs = go (length_fits (length xs))
  where
    go : (b : Bool) → length (cond b (filled_of s (length xs) (length xs) xs) xs) ≡ length xs
    go true = filled_length s (length xs) xs
    go false = refl

pub strip_at : (s : Shape) (xs : List Float) → T (length_fits (length xs)) → (i : ℕ) → i < length xs → get_or (strip_of s xs) i nan ≡ (height_of s (sample_position (length xs) i)).height
unfolding strip_of
strip_at s xs t i h = go (length_fits (length xs)) t
  where
    go : (b : Bool) → T b → get_or (cond b (filled_of s (length xs) (length xs) xs) xs) i nan ≡ (height_of s (sample_position (length xs) i)).height
    go true u = filled_at s (length xs) xs i (omega arith) h
    go false u = absurd u
