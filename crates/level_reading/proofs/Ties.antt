-- A NUMBER OR THE NEXT ONE UP: by how a remainder's double compares with the divisor, and so by what is carried out
-- of the remainder's digits where they are doubled. Assumes nothing.
use mathlib.Core.Path.{◌≡◌, refl, sym, ◌∙◌}
use mathlib.Core.Bool.{true, false, true≢false}
use mathlib.Core.List.{List}
use Prim.Native.Nat.{ℕ, suc, ◌+◌, ◌*◌, ◌%◌, ◌^◌, ◌<◌, compare, Ordering}
use native.Mathlib.Nat.{le_of_lt, ne_of_lt}
use native.Mathlib.Numerals.{add-one}
use native.Mathlib.Omega.{arith}
use borrow.Author.Tests.{eq-eqb, ne_eqb, le-leb, lt-leb}
use lib.Dec.{is_le, compare_is_eq}
use lib.ListN.{length}
use lib.Ieee.{nearest}
use Rattle.numerals.specs.Spelled.{number_of}
use Rattle.level_reading.specs.Digits.{Doubled}
use Rattle.level_reading.proofs.Digits.{number_below}

-- ---- by the comparison
module _ (q a b : ℕ) where
  nearest_below : a < b → q ≡ nearest q (compare a b)
  nearest_below h = go (compare a b) (le-leb a b (le_of_lt h)) (ne_eqb a b (ne_of_lt h))
    where
      go : (o : Ordering) → is_le o ≡ true → compare_is_eq o ≡ false → q ≡ nearest q o
      go Ordering.lt l e = refl
      go Ordering.eq l e = absurd (true≢false e)
      go Ordering.gt l e = absurd (true≢false (sym l))

  nearest_tie : a ≡ b → q + q % 2 ≡ nearest q (compare a b)
  nearest_tie h = go (compare a b) (eq-eqb a b h)
    where
      go : (o : Ordering) → compare_is_eq o ≡ true → q + q % 2 ≡ nearest q o
      go Ordering.lt e = absurd (true≢false (sym e))
      go Ordering.eq e = refl
      go Ordering.gt e = absurd (true≢false (sym e))

  nearest_above : b < a → q + 1 ≡ nearest q (compare a b)
  nearest_above h = add-one q ∙ go (compare a b) (lt-leb a b h)
    where
      go : (o : Ordering) → is_le o ≡ false → suc q ≡ nearest q o
      go Ordering.lt l = absurd (true≢false l)
      go Ordering.eq l = absurd (true≢false l)
      go Ordering.gt l = refl

-- ---- by the carry
module _ (kept carry : ℕ) (before after : List ℕ) (s : Doubled before after carry) where
  abbrev Rounded : ℕ → Type 0
  Rounded r = r ≡ nearest kept (compare (number_of before * 2) (10 ^ length before))

  rest : number_of after < 10 ^ length before
  rest = rw s.as_many at (number_below after s.digits)

  one : (carry ≡ 0 → ⊥) → number_of before * 2 ≡ 1 * 10 ^ length before + number_of after
  one n = let e : carry ≡ 1 = omega arith in rw e at s.twice

  pub below_half : carry ≡ 0 → Rounded kept
  below_half e =
      let t = rw e at s.twice in
      let l = rest in
      nearest_below kept (number_of before * 2) (10 ^ length before) (omega arith)

  pub at_half : (carry ≡ 0 → ⊥) → number_of after ≡ 0 → Rounded (kept + kept % 2)
  at_half n z = let t = one n in nearest_tie kept (number_of before * 2) (10 ^ length before) (omega arith)

  pub above_half : (carry ≡ 0 → ⊥) → (number_of after ≡ 0 → ⊥) → Rounded (kept + 1)
  above_half n z = let t = one n in nearest_above kept (number_of before * 2) (10 ^ length before) (omega arith)
