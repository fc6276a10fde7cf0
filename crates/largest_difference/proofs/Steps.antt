-- ONE SAMPLE MORE at which two curves are held against each other. Assumes nothing.
use mathlib.Core.Path.{◌≡◌}
use Prim.Native.Nat.{ℕ, ◌+◌, ◌≤◌}
use native.Mathlib.Nat.{le_antisymm}
use native.Mathlib.Numerals.{add-one}
use lib.Ieee.{Float}
use Rattle.largest_difference.specs.declared.Largest.{Largest as ALargest}
use Rattle.largest_difference.specs.Largest.{difference_at, larger_of, largest_of}

module _ (a b : ℕ → Float) where
  pub largest_more : (i : ℕ) (l r : ALargest) (d : Float) → l ≡ largest_of a b i → d ≡ difference_at a b i → r ≡ larger_of l d i → r ≡ largest_of a b (i + 1)
  unfolding largest_of
  largest_more i l r d f g e = rw (add-one i) (rw (f, g) at e)

  pub whole_strip : (i n : ℕ) (l : ALargest) → i ≤ n → n ≤ i → l ≡ largest_of a b i → l ≡ largest_of a b n
  whole_strip i n l h k f = let e : i ≡ n = le_antisymm h k in rw e at f
