-- One code more is counted. Assumes nothing.
use mathlib.Core.Path.{◌≡◌}
use Prim.Native.Nat.{ℕ, ◌+◌, ◌≤◌}
use native.Mathlib.Numerals.{add-one}
use native.Mathlib.Omega.{arith}
use Rattle.codes.specs.Codes.{code_of}
use Rattle.comparison.specs.Differences.{code_count, codes_count}

pub count_more : (a b : ℕ → ℕ) (k n m : ℕ) → (n ≤ k) × (n ≡ codes_count k a b) → (m ≡ code_count (code_of k) a b) × (m ≤ 1)
    → (n + m ≤ k + 1) × (n + m ≡ codes_count (k + 1) a b)
unfolding codes_count
count_more a b k n m h e = (omega (arith, h.0, e.1), rw (add-one k, h.1, e.0))
