-- AN ELEMENT OF A LIST, AND WHAT STANDS FOR ONE PAST ITS END; an element of a table of a function's values. Assumes nothing.
use mathlib.Core.Path.{◌≡◌, refl, sym, ap, ◌∙◌}
use mathlib.Core.List.{List, [], ◌∷◌}
use Prim.Native.Nat.{ℕ, zero, suc, ◌+◌, ◌≤◌, ◌<◌}
use native.Mathlib.Nat.{add-zero, add-suc, suc-add, not-suc-le-zero, le_of_suc-le-suc}
use lib.ListN.{length, get_or}
use Rattle.lists.specs.Listed.{listed}

module _ {A : Type 0} where
  pub element_there : (xs : List A) (i : ℕ) (d e : A) → i < length xs → get_or xs i d ≡ get_or xs i e
  element_there [] i d e h = absurd (not-suc-le-zero h)
  element_there (x ∷ xs) zero d e h = refl
  element_there (x ∷ xs) (suc i) d e h = element_there xs i d e (le_of_suc-le-suc h)

  pub element_past : (xs : List A) (i : ℕ) (d : A) → length xs ≤ i → d ≡ get_or xs i d
  element_past [] i d h = refl
  element_past (x ∷ xs) zero d h = absurd (not-suc-le-zero h)
  element_past (x ∷ xs) (suc i) d h = element_past xs i d (le_of_suc-le-suc h)

-- ---- an element of a table
pub listed_at : {A : Type 0} (f : ℕ → A) (d : A) (j n k : ℕ) → k < n → get_or (listed f j n) k d ≡ f (j + k)
unfolding listed
listed_at f d j zero k h = absurd (not-suc-le-zero h)
listed_at f d j (suc n) zero h = ap f (sym (add-zero j))
listed_at f d j (suc n) (suc k) h = listed_at f d (suc j) n k (le_of_suc-le-suc h) ∙ ap f (suc-add j k ∙ sym (add-suc j k))
