-- What the same bytes mean: no line is put, and the shape is the same; so are then all answers. Assumes nothing.
use mathlib.Core.Path.{◌≡◌, refl}
use mathlib.Core.Bool.{Bool, true, false, cond}
use mathlib.Core.List.{List, [], ◌∷◌}
use Prim.Native.Nat.{ℕ}
use native.Mathlib.Omega.{arith}
use borrow.Author.Tests.{eqb-true, eq-eqb}
use lib.Dec.{eqb}
use Rattle.codes.specs.declared.Code.{Code}
use Rattle.code_bytes.specs.Bytes.{Agree, bytes_of}
use Rattle.code_shapes.specs.Shapes.{shape_of}
use Rattle.code_shapes.proofs.Agreement.{agreement}
use Rattle.comparison_bytes.specs.Changes.{same_bytes, change_text, changes_text}

pub agree : (bytes : List ℕ) (a b : ℕ → ℕ) → same_bytes bytes a b ≡ true → Agree bytes a b
unfolding same_bytes Agree
agree [] a b e = tt
agree (n ∷ ns) a b e = go (eqb (a n) (b n)) (eqb-true (a n) (b n)) (agree ns a b) e
  where
    go : (t : Bool) → (t ≡ true → a n ≡ b n) → (same_bytes ns a b ≡ true → Agree ns a b) → cond t (same_bytes ns a b) false ≡ true → (a n ≡ b n) × Agree ns a b
    go true f g e = (f refl, g e)
    go false f g e = let z : ◌≡◌ {A = ℕ} 0 1 = cc in absurd (omega arith)

-- The same bytes have the same shape.
pub same_shape : (c : Code) (a b : ℕ → ℕ) → same_bytes (bytes_of c) a b ≡ true → shape_of c a ≡ shape_of c b
same_shape c a b e = agreement c a b (agree (bytes_of c) a b e)

-- The same bytes have no lines.
pub no_lines : (bytes : List ℕ) (a b : ℕ → ℕ) → Agree bytes a b → changes_text bytes a b ≡ []
unfolding Agree change_text changes_text
no_lines [] a b h = refl
no_lines (n ∷ ns) a b h = rw (eq-eqb (a n) (b n) h.0, no_lines ns a b h.1)
