-- One byte more is counted. Assumes nothing.
use mathlib.Core.Path.{◌≡◌, refl}
use mathlib.Core.Bool.{Bool, true, false, cond}
use Prim.Native.Nat.{ℕ, ◌+◌, ◌≤◌}
use native.Mathlib.Numerals.{add-one}
use native.Mathlib.Omega.{arith}
use mir.Val.{bool_byte}
use Rattle.undrawn_count.specs.Count.{differs, differ_count, undrawn_count}

-- What is added for a byte is 1 where it differs, else 0.
one : (d : Bool) → (bool_byte d ≡ cond d 1 0) × (bool_byte d ≤ 1)
one true = (refl, omega arith)
one false = (refl, omega arith)

pub count_more : (a b : ℕ → ℕ) (k n m : ℕ) (d : Bool) → (n ≤ k) × (n ≡ undrawn_count k a b) → d ≡ differs k (a k) (b k) → m ≡ bool_byte d
    → (n + m ≤ k + 1) × (n + m ≡ undrawn_count (k + 1) a b)
unfolding undrawn_count differ_count
count_more a b k n m d h e f =
    let l : m ≤ 1 = rw f (one d).1 in
    (omega (arith, h.0), rw (add-one k, h.1, f, (one d).0, e))
