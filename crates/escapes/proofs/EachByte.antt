-- A text put byte by byte, each by f: one byte less is left, and at the end none. Assumes nothing.
use mathlib.Core.List.{List, []}
use Prim.Native.Nat.{ℕ, ◌+◌, ◌≤◌, ◌<◌}
use native.Mathlib.Numerals.{add-one}
use lib.ListN.{length, drop, get_or, drop_of_length-le}
use lib.Seq.{drop-cons}
use Rattle.text.specs.declared.Writer.{Writer}
use Rattle.text.specs.Text.{Puts}
use Rattle.escapes.specs.Escaped.{all_by}
use Rattle.text.proofs.Writing.{Left, left_less}

module _ (f : ℕ → List ℕ) (text : List ℕ) (i : ℕ) where
  pub byte_less : {w w₁ w₂ : Writer} {x : List ℕ} → i < length text → Left w x w₁ (all_by f (drop i text)) → Puts w₁ (f (get_or text i 0)) w₂ → Left w x w₂ (all_by f (drop (i + 1) text))
  unfolding all_by
  byte_less h g q = rw (add-one i) (left_less (rw (drop-cons text i 0 h) at g) q)

  pub none_left : {w w₁ : Writer} {x : List ℕ} → length text ≤ i → Left w x w₁ (all_by f (drop i text)) → Left w x w₁ []
  unfolding all_by
  none_left h g = rw (drop_of_length-le text h) at g
