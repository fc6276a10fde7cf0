-- WHERE NONE IS COUNTED NONE DIFFERS: if the count is 0, each byte that no curve draws is the same in both blocks. Assumes nothing.
use mathlib.Core.Path.{◌≡◌, refl}
use mathlib.Core.Bool.{Bool, true, false, cond, not, true≢false}
use mathlib.Core.Logic.{⊎_elim}
use Prim.Native.Nat.{ℕ, zero, suc, ◌<◌}
use native.Mathlib.Nat.{eq-or-lt_of_le, not-suc-le-zero, le_of_suc-le-suc}
use native.Mathlib.Omega.{arith}
use borrow.Author.Tests.{eqb-true}
use lib.Dec.{eqb}
use Rattle.drawn_bytes.specs.Drawn.{drawn}
use Rattle.undrawn_count.specs.Count.{differs, differ_count, undrawn_count}

uncounted : (t : Bool) → ◌≡◌ {A = ℕ} (cond t 1 0) 0 → t ≡ false
uncounted true e = absurd (omega arith)
uncounted false e = refl

same_of : (t d : Bool) (x y : ℕ) → (t ≡ true → x ≡ y) → d ≡ false → cond t false (not d) ≡ false → x ≡ y
same_of true d x y f g e = f refl
same_of false false x y f g e = absurd (true≢false e)
same_of false true x y f g e = absurd (true≢false g)

module _ (a b : ℕ → ℕ) where
  none_differs : (k n : ℕ) → n < k → undrawn_count k a b ≡ 0 → differs n (a n) (b n) ≡ false
  unfolding undrawn_count differ_count
  none_differs zero n h e = absurd (not-suc-le-zero h)
  none_differs (suc k) n h e =
      ⊎_elim (λ q. rw q (uncounted (differs k (a k) (b k)) (omega arith))) (λ q. none_differs k n q (omega arith)) (eq-or-lt_of_le (le_of_suc-le-suc h))

  pub none_counted_same : (k n : ℕ) → n < k → undrawn_count k a b ≡ 0 → drawn n ≡ false → a n ≡ b n
  unfolding differs
  none_counted_same k n h e d = same_of (eqb (a n) (b n)) (drawn n) (a n) (b n) (eqb-true (a n) (b n)) d (none_differs k n h e)
