-- A SLICE THAT IS WRITTEN FROM ITS START: its length stays, and each element that is written is its own. Assumes nothing.
use mathlib.Core.Path.{◌≡◌, refl, ◌∙◌}
use mathlib.Core.List.{List}
use mathlib.Core.Logic.{inl, inr}
use Prim.Native.Nat.{ℕ, zero, suc, ◌+◌, ◌≤◌, ◌<◌}
use native.Mathlib.Nat.{ne_of_lt, not-suc-le-zero, eq-or-lt_of_le, le_of_suc-le-suc}
use native.Mathlib.Numerals.{add-one}
use native.Mathlib.Omega.{arith}
use lib.ListN.{length, get_or, set, length-set}
use lib.Seq.{get_or-set_same, get_or-set_other}
use Rattle.lists.specs.Written.{written}

module _ {A : Type 0} (f : ℕ → A) where
  pub written_length : (k : ℕ) (xs : List A) → length (written f k xs) ≡ length xs
  unfolding written
  written_length zero xs = refl
  written_length (suc k) xs = length-set (written f k xs) k (f k) ∙ written_length k xs

  -- Element i of the first k.
  pub written_at : (d : A) (k : ℕ) (xs : List A) (i : ℕ) → k ≤ length xs → i < k → get_or (written f k xs) i d ≡ f i
  unfolding written
  written_at d zero xs i h l = absurd (not-suc-le-zero l)
  written_at d (suc k) xs i h l =
      elim (eq-or-lt_of_le (le_of_suc-le-suc l)) [
        | inl e ↦ rw e (get_or-set_same (written f k xs) k (f k) d (rw (written_length k xs) (omega arith)))
        | inr m ↦ get_or-set_other (written f k xs) k i (f k) d (ne_of_lt m) ∙ written_at d k xs i (omega arith) m
      ]

  -- One element more.
  pub written_next : (k : ℕ) (xs : List A) {ys : List A} {v : A} → ys ≡ written f k xs → v ≡ f k → set ys k v ≡ written f (k + 1) xs
  unfolding written
  written_next k xs a b = simp (a, b, add-one)

  -- After the last element all are written.
  pub written_whole : (k n : ℕ) (xs : List A) {ys : List A} → k ≡ n → ys ≡ written f k xs → ys ≡ written f n xs
  written_whole k n xs a b = simp (b, a)
