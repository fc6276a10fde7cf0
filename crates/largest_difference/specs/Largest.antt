-- HOW FAR TWO CURVES ARE APART: docs/SPECIFICATION.md, "What differs". A curve is a height for each sample, by its number: a is the old, b the new. Definitions only.
use Rattle.std.specs.Prelude.{cond, List, ℕ, zero, suc, get_or, Float}
use Rattle.std.specs.Float.{nan}
use Rattle.std.specs.Float.Ieee.{lt}
use Rattle.exact.specs.Binary32.{◌⊖◌, zero₃₂}
use Rattle.math.specs.Formulas.{abs_of}
use Rattle.largest_difference.specs.declared.Largest.{Largest as ALargest}

-- The number of samples at which they are held against each other.
abbrev pub compared_samples : ℕ
compared_samples = 1025

-- The curve that a list of heights is, from its first on; past its last there is no number.
abbrev pub heights_of : List Float → ℕ → Float
heights_of hs i = get_or hs i nan

-- The size of their difference at sample i, rounded once.
unfoldable pub difference_at : (ℕ → Float) → (ℕ → Float) → ℕ → Float
difference_at a b i = abs_of (a i ⊖ b i)

-- The larger of what was found and a difference at sample i; of two equals what was found.
unfoldable pub larger_of : ALargest → Float → ℕ → ALargest
larger_of l d i = cond (lt l.size d) (record { size = d; index = i }) l

-- The largest difference at the first k samples, and the first sample that has it; where there is none, 0 at the left edge.
unfoldable pub largest_of : (ℕ → Float) → (ℕ → Float) → ℕ → ALargest
largest_of a b zero = record { size = zero₃₂; index = 0 }
largest_of a b (suc k) = larger_of (largest_of a b k) (difference_at a b k) k
