-- THE LARGEST DIFFERENCE IS THE LARGEST: of differences that are numbers none is larger, and it is the difference at its own sample, or the 0 from which the fold starts. Assumes nothing.
use mathlib.Core.Path.{◌≡◌, refl}
use mathlib.Core.Bool.{Bool, true, false, not, cond}
use mathlib.Core.Logic.{◌⊎◌, inl, inr, ⊎_elim}
use Prim.Native.Nat.{ℕ, zero, suc, ◌<◌}
use native.Mathlib.Nat.{eq-or-lt_of_le, not-suc-le-zero, le_of_suc-le-suc}
use lib.Dec.{T}
use lib.Ieee.{Float, lt, of_bits}
use lib.Ieee.Scale.{finite}
use Rattle.exact.specs.Value.{value}
use Rattle.exact.specs.Binary32.{zero₃₂}
use Rattle.exact.proofs.Defined.{value_defined}
use Rattle.exact.proofs.Order.{AtMost, at_most_refl, at_most_trans, lt_at_most, nlt_at_most}
use Rattle.largest_difference.specs.declared.Largest.{Largest as ALargest}
use Rattle.largest_difference.specs.Largest.{difference_at, larger_of, largest_of}

-- ---- one difference more, by the outcome of the test
abbrev pick : Bool → ALargest → Float → ℕ → ALargest
pick b l d i = cond b (record { size = d; index = i }) l

-- What holds of the differences so far holds with number k.
grown : (f : ℕ → Float) (i k : ℕ) (l : ALargest) (b : Bool) → T (finite (f k)) → (T b → AtMost (value l.size) (value (f k))) → (T (not b) → AtMost (value (f k)) (value l.size))
    → (i < k → AtMost (value (f i)) (value l.size)) → (i ≡ k) ⊎ (i < k) → AtMost (value (f i)) (value (pick b l (f k) k).size)
grown f i k l true F up down again c = ⊎_elim (λ e. rw e (at_most_refl ((value_defined (f k)).1 F))) (λ q. at_most_trans (again q) (up tt)) c
grown f i k l false F up down again c = ⊎_elim (λ e. rw e (down tt)) again c

module _ (a b : ℕ → Float) where
  pub attained : (k : ℕ) → ((largest_of a b k).size ≡ zero₃₂) ⊎ ((largest_of a b k).size ≡ difference_at a b (largest_of a b k).index)
  unfolding largest_of larger_of
  attained zero = inl refl
  attained (suc k) = go (lt (largest_of a b k).size (difference_at a b k)) (attained k)
    where
      go : (t : Bool) → ((largest_of a b k).size ≡ zero₃₂) ⊎ ((largest_of a b k).size ≡ difference_at a b (largest_of a b k).index)
          → ((pick t (largest_of a b k) (difference_at a b k) k).size ≡ zero₃₂) ⊎ ((pick t (largest_of a b k) (difference_at a b k) k).size ≡ difference_at a b (pick t (largest_of a b k) (difference_at a b k) k).index)
      go true h = inr refl
      go false h = h

zero_finite : T (finite zero₃₂)
unfolding of_bits
zero_finite = tt

module _ (a b : ℕ → Float) (numbers : (i : ℕ) → T (finite (difference_at a b i))) where
  largest_finite : (k : ℕ) → T (finite (largest_of a b k).size)
  unfolding largest_of larger_of
  largest_finite zero = zero_finite
  largest_finite (suc k) = go (lt (largest_of a b k).size (difference_at a b k)) (largest_finite k)
    where
      go : (t : Bool) → T (finite (largest_of a b k).size) → T (finite (pick t (largest_of a b k) (difference_at a b k) k).size)
      go true h = numbers k
      go false h = h

  -- The value of each difference is at most that of the largest.
  pub none_larger : (k i : ℕ) → i < k → AtMost (value (difference_at a b i)) (value (largest_of a b k).size)
  unfolding largest_of larger_of
  none_larger zero i h = absurd (not-suc-le-zero h)
  none_larger (suc k) i h =
      let l = (largest_of a b k).size in
      let d = difference_at a b k in
      let L = largest_finite k in
      grown (difference_at a b) i k (largest_of a b k) (lt l d) (numbers k) (lt_at_most l d L (numbers k)) (nlt_at_most l d L (numbers k)) (none_larger k i) (eq-or-lt_of_le (le_of_suc-le-suc h))
