-- A MATCH ON A NUMBER THAT HAS PASSED those below k: it is k or more. Assumes nothing.
use mathlib.Core.Path.{◌≡◌}
use Prim.Native.Nat.{ℕ, zero, suc, ◌≤◌}
use native.Mathlib.Omega.{arith}

unfoldable pub Passed : ℕ → ℕ → Type 0
Passed zero n = Unit
Passed (suc k) n = Passed k n × (n ≡ k → ⊥)

pub passed : (k : ℕ) {n : ℕ} → Passed k n → k ≤ n
unfolding Passed
passed zero p = omega arith
passed (suc k) {n} p = let l : k ≤ n = passed k p.0 in let d : n ≡ k → ⊥ = p.1 in omega arith
