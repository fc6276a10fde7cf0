-- Two blocks have each byte of a list the same; and the line of one byte more is put. Assumes nothing.
use mathlib.Core.Path.{◌≡◌, refl}
use mathlib.Core.Bool.{Bool, true, false, cond, ◌&&◌}
use mathlib.Core.List.{List, [], ◌∷◌}
use Prim.Native.Nat.{ℕ, ◌+◌, ◌<◌, ◌≤◌}
use native.Mathlib.Numerals.{add-one}
use lib.Dec.{eqb}
use lib.ListN.{length, drop, get_or, drop_of_length-le}
use lib.Seq.{drop-cons}
use Rattle.std.specs.List.{list_all}
use Rattle.text.specs.declared.Writer.{Writer}
use Rattle.text.specs.Text.{Puts}
use Rattle.text.proofs.Writing.{Left, left_less}
use Rattle.comparison_bytes.specs.Changes.{same_bytes, change_text, changes_text}

and_cond : (x y : Bool) → (x && y) ≡ cond x y false
and_cond true y = refl
and_cond false y = refl

pub every_same : (bytes : List ℕ) (a b : ℕ → ℕ) → list_all (λ n. eqb (a n) (b n)) bytes ≡ same_bytes bytes a b
unfolding same_bytes
every_same [] a b = refl
every_same (n ∷ ns) a b = rw (every_same ns a b) (and_cond (eqb (a n) (b n)) _)

module _ (bytes : List ℕ) (i : ℕ) (a b : ℕ → ℕ) {w w₁ : Writer} {u : List ℕ} where
  pub change_put : i < length bytes → {w₂ : Writer} (x y : ℕ) → x ≡ a (get_or bytes i 0) → y ≡ b (get_or bytes i 0)
      → Left w u w₁ (changes_text (drop i bytes) a b) → Puts w₁ (change_text (get_or bytes i 0) x y) w₂ → Left w u w₂ (changes_text (drop (i + 1) bytes) a b)
  unfolding changes_text
  change_put h x y ex ey f g = rw (add-one i) (left_less (rw (drop-cons bytes i 0 h) at f) (rw (ex, ey) at g))

  pub no_change : length bytes ≤ i → Left w u w₁ (changes_text (drop i bytes) a b) → Left w u w₁ []
  unfolding changes_text
  no_change h f = rw (drop_of_length-le bytes h) at f
