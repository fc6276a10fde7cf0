-- A LOOP OVER THE TAPS THAT ARE USED, the first n of the places: it passes only those, and ends at the last of them. Assumes nothing.
use mathlib.Core.Path.{◌≡◌}
use mathlib.Core.List.{List}
use Prim.Native.Nat.{ℕ, ◌≤◌, ◌<◌, min}
use native.Mathlib.Omega.{arith}
use lib.ListN.{length, take}
use Rattle.std.proofs.lemmas.List.{length-take}

pub used_below : {A : Type 0} (n : ℕ) (xs : List A) {i : ℕ} → i < length (take n xs) → i < n
used_below n xs h = omega (arith, rw length-take at h)

pub all_used : {A : Type 0} (n : ℕ) (xs : List A) (u : ℕ) {i : ℕ} → length xs ≡ 4 → i ≤ length (take n xs) → length (take n xs) ≤ i → n ≡ min u 4 → i ≡ min u 4
all_used n xs u e h k m = omega (arith, e, m, rw length-take at h, rw length-take at k)
