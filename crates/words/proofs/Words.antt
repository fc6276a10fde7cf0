-- Words in a row, byte by byte: what a bar, another byte and the end each do to the bytes from a place on. Assumes nothing.
use mathlib.Core.Path.{◌≡◌, refl, sym}
use Rattle.std.specs.Prelude.{Option, Some, None, MatchOption, unwrap_or}
use mathlib.Core.List.{List, [], ◌∷◌}
use Prim.Native.Nat.{ℕ, zero, suc, ◌+◌, ◌-◌, ◌<◌, ◌≤◌}
use native.Mathlib.Numerals.{add-one}
use native.Mathlib.Omega.{arith}
use lib.ListN.{length, drop, get_or, drop_of_length-le}
use lib.Seq.{drop-cons}
use borrow.Author.Tests.{eq-eqb, ne_eqb}
use Rattle.words.specs.Words.{bar, first_word, past_bar, word_of, index_of}

module _ (s : List ℕ) (i : ℕ) where
  pub past_bar_lem : (last : List ℕ) → i < length s → get_or s i 0 ≡ bar → past_bar last (drop i s) ≡ drop (i + 1) s
  unfolding past_bar
  past_bar_lem last h e = rw (add-one, drop-cons s i 0 h) (simp (eq-eqb _ _ e))

  pub past_letter : (last : List ℕ) → i < length s → (get_or s i 0 ≡ bar → ⊥) → past_bar last (drop i s) ≡ past_bar last (drop (i + 1) s)
  unfolding past_bar
  past_letter last h n = rw (add-one, drop-cons s i 0 h) (simp (ne_eqb _ _ n))

  pub past_end : (last : List ℕ) → length s ≤ i → past_bar last (drop i s) ≡ last
  unfolding past_bar
  past_end last h = rw (drop_of_length-le s h)

  pub word_bar : i < length s → get_or s i 0 ≡ bar → first_word (drop i s) ≡ []
  unfolding first_word
  word_bar h e = rw (drop-cons s i 0 h) (simp (eq-eqb _ _ e))

  pub word_letter : i < length s → (get_or s i 0 ≡ bar → ⊥) → first_word (drop i s) ≡ get_or s i 0 ∷ first_word (drop (i + 1) s)
  unfolding first_word
  word_letter h n = rw (add-one, drop-cons s i 0 h) (simp (ne_eqb _ _ n))

  pub word_end : length s ≤ i → first_word (drop i s) ≡ []
  unfolding first_word
  word_end h = rw (drop_of_length-le s h)

-- ---- word k, a word at a time
pub word_passed : (words : List ℕ) (k i : ℕ) → i < k → word_of words (k - i) ≡ word_of (past_bar words words) (k - (i + 1))
unfolding word_of
word_passed words k i h = let e : k - i ≡ suc (k - (i + 1)) = omega arith in rw e

pub word_reached : (words : List ℕ) (k : ℕ) → k ≤ 0 → first_word words ≡ word_of words k
unfolding word_of
word_reached words zero h = refl
word_reached words (suc k) h = absurd (omega arith)

-- past the last word, no word is passed
pub word_last : (words : List ℕ) (k : ℕ) → words ≡ past_bar words words → first_word words ≡ word_of words k
unfolding word_of
word_last words zero e = refl
word_last words (suc k) e = rw (← e) (word_last words k e)

-- ---- the place in a list
module _ (list : List ℕ) (i b : ℕ) where
  here : i < length list → get_or list i 0 ≡ b → index_of (drop i list) b ≡ 0
  unfolding index_of
  here h e = rw (drop-cons list i 0 h) (simp (eq-eqb _ _ e))

  further : i < length list → (get_or list i 0 ≡ b → ⊥) → index_of (drop i list) b ≡ suc (index_of (drop (i + 1) list) b)
  unfolding index_of
  further h n = rw (add-one, drop-cons list i 0 h) (simp (ne_eqb _ _ n))

  none : length list ≤ i → index_of (drop i list) b ≡ 0
  unfolding index_of
  none h = rw (drop_of_length-le list h)

  module _ {place : ℕ} (e : place ≡ i + index_of (drop i list) b) where
    pub place_here : i < length list → get_or list i 0 ≡ b → i ≡ place
    place_here h q = omega (arith, here h q)

    pub place_further : i < length list → (get_or list i 0 ≡ b → ⊥) → place ≡ i + 1 + index_of (drop (i + 1) list) b
    place_further h n = omega (arith, further h n)

    pub place_none : length list ≤ i → i ≡ place
    place_none h = omega (arith, none h)

-- the place, or the length where there is none
pub place_or_length : (list : List ℕ) (b : ℕ) (r : Option ℕ)
    → MatchOption r (index_of list b ≡ length list) (λ k. (k < length list) × (k ≡ index_of list b)) → unwrap_or r (length list) ≡ index_of list b
place_or_length list b (Some k) e = e.1
place_or_length list b None e = sym e
