-- A TEST OVER ALL WHOLE NUMBERS FROM -k TO k, each computed once. Assumes nothing.
use mathlib.Core.Bool.{Bool, ◌&&◌}
use Prim.Native.Nat.{ℕ, suc, ◌≤◌}
use native.Mathlib.Omega.{arith}
use lib.IntN.{ℤ, pos, negsuc}
use lib.Dec.{T}
use lib.Ieee.Fits.{and_l, and_r}
use Rattle.lists.proofs.Every.{every, each}
use Rattle.exact.proofs.Parts.{part⁺, part⁻}

unfoldable pub every_whole : (ℤ → Bool) → ℕ → Bool
unfolding every
every_whole t k = every (λ n. t (pos n)) (suc k) && every (λ n. t (negsuc n)) k

pub each_whole : (t : ℤ → Bool) (k : ℕ) (z : ℤ) → T (every_whole t k) → part⁺ z ≤ k → part⁻ z ≤ k → T (t z)
unfolding every_whole
each_whole t k (pos n) h l r = each (λ n. t (pos n)) (suc k) n (and_l (every (λ n. t (pos n)) (suc k)) (every (λ n. t (negsuc n)) k) h) (omega arith)
each_whole t k (negsuc n) h l r = each (λ n. t (negsuc n)) k n (and_r (every (λ n. t (pos n)) (suc k)) (every (λ n. t (negsuc n)) k) h) r
