-- A TEST OVER ALL NUMBERS BELOW n, computed once, and what it says of each of them. Assumes nothing.
use mathlib.Core.Path.{◌≡◌, sym, subst}
use mathlib.Core.Logic.{◌⊎◌, inl, inr}
use mathlib.Core.Bool.{Bool, true, false}
use Prim.Native.Nat.{ℕ, zero, suc, ◌<◌}
use native.Mathlib.Nat.{eq-or-lt_of_le, le_of_suc-le-suc, not-suc-le-zero}
use lib.Dec.{T}

unfoldable pub every : (ℕ → Bool) → ℕ → Bool
every t zero = true
every t (suc n) = elim (t n) [ true ↦ every t n | false ↦ false ]

pub each : (t : ℕ → Bool) (n i : ℕ) → T (every t n) → i < n → T (t i)
unfolding every
each t zero i h l = absurd (not-suc-le-zero l)
each t (suc n) i h l = go (t n) (λ (b : T (t n)). b) h (eq-or-lt_of_le (le_of_suc-le-suc l)) (λ (g : T (every t n)) (k : i < n). each t n i g k)
  where
    go : (b : Bool) → (T b → T (t n)) → T (elim b [ true ↦ every t n | false ↦ false ]) → (i ≡ n) ⊎ (i < n) → (T (every t n) → i < n → T (t i)) → T (t i)
    go false f h c r = absurd h
    go true f h (inl e) r = subst (λ (j : ℕ). T (t j)) (sym e) (f tt)
    go true f h (inr k) r = r h k
