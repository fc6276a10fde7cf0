-- CURVES THAT AGREE at the first k samples are as far apart there as those that they agree with. Assumes nothing.
use mathlib.Core.Path.{◌≡◌, refl}
use Prim.Native.Nat.{ℕ, zero, suc, ◌<◌}
use native.Mathlib.Omega.{arith}
use lib.Ieee.{Float}
use Rattle.largest_difference.specs.Largest.{difference_at, largest_of}

pub same_largest : (a b c d : ℕ → Float) (k : ℕ) → ((i : ℕ) → i < k → a i ≡ c i) → ((i : ℕ) → i < k → b i ≡ d i) → largest_of a b k ≡ largest_of c d k
unfolding largest_of difference_at
same_largest a b c d zero f g = refl
same_largest a b c d (suc k) f g = rw (same_largest a b c d k (λ i h. f i (omega arith)) (λ i h. g i (omega arith)), f k (omega arith), g k (omega arith))
