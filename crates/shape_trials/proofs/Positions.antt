-- ONE POSITION MORE at which two shape bytes are held against each other. Assumes nothing.
use mathlib.Core.Path.{◌≡◌, refl}
use Prim.Native.Nat.{ℕ, ◌+◌}
use native.Mathlib.Numerals.{add-one}
use Rattle.shape_trials.specs.Shapes.{differs_at, differing}

pub none_compared : (a b : ℕ) → 0 ≡ differing a b 0
unfolding differing
none_compared a b = refl

pub one_compared : (a b i : ℕ) {count more : ℕ} → count ≡ differing a b i → more ≡ differs_at a b i → count + more ≡ differing a b (i + 1)
unfolding differing
one_compared a b i e f = simp (e, f, add-one)
