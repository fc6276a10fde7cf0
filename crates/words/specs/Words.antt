-- ONE OF SOME WORDS, in a row with a bar between two: "off|on". Definitions only.
use Rattle.std.specs.Prelude.{cond, List, [], ◌∷◌, ℕ, zero, suc, eqb}

-- The character |.
abbrev pub bar : ℕ
bar = 124

-- What stands before the first bar.
unfoldable pub first_word : List ℕ → List ℕ
first_word [] = []
first_word (b ∷ s) = cond (eqb b bar) [] (b ∷ first_word s)

-- What stands past the first bar of s; where s has none, `last`.
unfoldable pub past_bar : List ℕ → List ℕ → List ℕ
past_bar last [] = last
past_bar last (b ∷ s) = cond (eqb b bar) s (past_bar last s)

-- Word k, counted from 0; a number past the last word's gives the last.
unfoldable pub word_of : List ℕ → ℕ → List ℕ
word_of words zero = first_word words
word_of words (suc k) = word_of (past_bar words words) k

-- The place of the first b in a list; the list's length where it has none.
unfoldable pub index_of : List ℕ → ℕ → ℕ
index_of [] b = 0
index_of (a ∷ list) b = cond (eqb a b) 0 (suc (index_of list b))
