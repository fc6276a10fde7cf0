-- HOW MANY TAPS ARE USED, where their count is written out. Assumes nothing.
use mathlib.Core.Path.{◌≡◌}
use Prim.Native.Nat.{ℕ, suc, ◌≤◌, ◌<◌, min}
use native.Mathlib.Omega.{arith}

-- From k up and below k + 1, k of at most four are used; from 4 up all four.
pub just : {used : ℕ} (k : ℕ) → k ≤ 4 → k ≤ used → used < suc k → min used 4 ≡ k
just k m h l = omega arith

pub all_four : {used : ℕ} → 4 ≤ used → min used 4 ≡ 4
all_four h = omega arith
