-- TWO NATURALS, the first not above the second and the second at most the next after it, are equal or next to each other. Assumes nothing.
use mathlib.Core.Path.{◌≡◌}
use mathlib.Core.Logic.{◌⊎◌, inl, inr}
use Prim.Native.Nat.{ℕ, suc, ◌≤◌, ◌<◌}
use native.Mathlib.Nat.{eq-or-lt_of_le}
use native.Mathlib.Omega.{arith}

pub same_or_next : {x y : ℕ} → x < suc y → y < suc (suc x) → (x ≡ y) ⊎ (y ≡ suc x)
same_or_next {x} {y} h k = elim (eq-or-lt_of_le (below h)) [ inl e ↦ inl e | inr l ↦ inr (above l k) ]
  where
    below : {x y : ℕ} → x < suc y → x ≤ y
    below {x} {y} h = omega arith

    above : {x y : ℕ} → x < y → y < suc (suc x) → y ≡ suc x
    above {x} {y} h k = omega arith
