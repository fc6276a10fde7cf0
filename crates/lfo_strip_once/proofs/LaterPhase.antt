-- A WALK GOES ON FROM AN EARLIER PHASE: a place that falls short of a phase falls short of every later one, so that the search may start from the full steps of the earlier. Assumes nothing.
use mathlib.Core.Path.{◌≡◌, refl, sym, ap, subst, ◌∙◌}
use mathlib.Core.Bool.{Bool, true, false, cond}
use Prim.Native.Nat.{ℕ, zero, suc, ◌+◌, ◌-◌}
use native.Mathlib.Omega.{arith}
use lib.Dec.{T}
use lib.Ieee.{Float, le}
use Rattle.exact.proofs.Order.{le_trans}
use Rattle.walk.specs.Formula.{place_of, full_from, full_steps}
use Rattle.walk.specs.Reached.{full_on}

module _ (p q : Float) (h : T (le p q)) where
  stays_short : (x : Float) → le p x ≡ false → le q x ≡ false
  stays_short x e = go (le q x) refl
    where
      go : (b : Bool) → le q x ≡ b → b ≡ false
      go true i = absurd (subst T e (le_trans p q x h (subst T (sym i) tt)))
      go false i = refl

  goes_on : (n k : ℕ) → full_from q n k ≡ full_from q (n + k - full_from p n k) (full_from p n k)
  unfolding full_from
  goes_on zero k = let e : 0 + k - k ≡ 0 = omega arith in rw e refl
  goes_on (suc n) k = go (le p (place_of (suc k))) refl (goes_on n (suc k))
    where
      go : (b : Bool) → le p (place_of (suc k)) ≡ b → full_from q n (suc k) ≡ full_from q (n + suc k - full_from p n (suc k)) (full_from p n (suc k))
          → full_from q (suc n) k ≡ full_from q (suc n + k - cond b k (full_from p n (suc k))) (cond b k (full_from p n (suc k)))
      go true e i = let z : suc n + k - k ≡ suc n = omega arith in sym (ap (λ (m : ℕ). full_from q m k) z)
      go false e i =
          let z : suc n + k - full_from p n (suc k) ≡ n + suc k - full_from p n (suc k) = omega arith in
          simp (stays_short (place_of (suc k)) e) (i ∙ sym (ap (λ (m : ℕ). full_from q m (full_from p n (suc k))) z))

  pub steps_on : full_on q (full_steps p) ≡ full_steps q
  unfolding full_on full_steps
  steps_on = sym (goes_on 65534 0)
