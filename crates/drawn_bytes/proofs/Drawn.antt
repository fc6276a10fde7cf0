-- A byte is drawn if one of the codes reads it, a code at a time; and what it is to be in a list. Assumes nothing.
use mathlib.Core.Path.{◌≡◌, refl, sym, ◌∙◌}
use mathlib.Core.Bool.{Bool, true, false, cond, ◌||◌}
use mathlib.Core.Logic.{⊎_elim}
use mathlib.Core.List.{List, [], ◌∷◌}
use Prim.Native.Nat.{ℕ, zero, suc, ◌+◌, ◌<◌, ◌≤◌}
use native.Mathlib.Nat.{eq-or-lt_of_le}
use native.Mathlib.Numerals.{add-one}
use native.Mathlib.Omega.{arith}
use borrow.Author.Tests.{ne_eqb, lt-ltb}
use lib.Dec.{eqb, ltb, leb-suc-suc}
use lib.ListN.{length}
use Rattle.std.specs.List.{list_any}
use Rattle.words.specs.Words.{index_of}
use Rattle.codes.specs.Codes.{code_of}
use Rattle.code_bytes.specs.Bytes.{gates_byte}
use Rattle.drawn_bytes.specs.Drawn.{read_by, drawn_by, drawn}

-- A number is in a list where its place is one of the list's.
pub among : (list : List ℕ) (n : ℕ) → list_any (λ a. eqb a n) list ≡ ltb (index_of list n) (length list)
unfolding index_of
among [] n = refl
among (a ∷ list) n = go (eqb a n) (among list n)
  where
    go : (t : Bool) → list_any (λ a. eqb a n) list ≡ ltb (index_of list n) (length list) → (t || list_any (λ a. eqb a n) list) ≡ ltb (cond t 0 (suc (index_of list n))) (suc (length list))
    go true e = let h : 0 < suc (length list) = omega arith in sym (lt-ltb 0 (suc (length list)) h)
    go false e = e ∙ sym (leb-suc-suc (suc (index_of list n)) (length list))

module _ (n : ℕ) where
  pub none_yet : (k : ℕ) → drawn_by k n ≡ false → read_by (code_of k) n ≡ false → drawn_by (k + 1) n ≡ false
  unfolding drawn_by
  none_yet k h e = rw (add-one k) (simp e h)

  pub one_reads : (k m : ℕ) → k < m → read_by (code_of k) n ≡ true → drawn_by m n ≡ true
  unfolding drawn_by
  one_reads k zero h e = absurd (omega arith)
  one_reads k (suc m) h e =
      let l : k ≤ m = omega arith in
      ⊎_elim (λ q. let r : read_by (code_of m) n ≡ true = rw q at e in simp r) (λ q. go (read_by (code_of m) n) (one_reads k m q e)) (eq-or-lt_of_le l)
    where
      go : (t : Bool) → drawn_by m n ≡ true → cond t true (drawn_by m n) ≡ true
      go true f = refl
      go false f = f

  -- What the codes say of a byte that is not the gates'.
  pub of_codes : (r : Bool) → (n ≡ gates_byte → ⊥) → drawn_by 14 n ≡ r → r ≡ drawn n
  unfolding drawn
  of_codes r h e = rw (ne_eqb n gates_byte h) (sym e)
