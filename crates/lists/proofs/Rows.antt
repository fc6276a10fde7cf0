-- A TEST OVER ALL ROWS OF A TABLE. Assumes nothing.
use mathlib.Core.Bool.{Bool, true, false}
use mathlib.Core.List.{List, [], ◌∷◌}

-- Every row passes the test. The `elim` goes on only after a row that does: `◌&&◌` would compute both sides.
unfoldable pub all_pass : {Row : Type 0} → (Row → Bool) → List Row → Bool
all_pass test [] = true
all_pass test (r ∷ rs) = elim (test r) [ true ↦ all_pass test rs | false ↦ false ]

-- Rows and values are as many, and each value passes the test with its row.
unfoldable pub all_match : {Row Value : Type 0} → (Row → Value → Bool) → List Row → List Value → Bool
all_match test [] [] = true
all_match test [] (x ∷ xs) = false
all_match test (r ∷ rs) [] = false
all_match test (r ∷ rs) (x ∷ xs) = elim (test r x) [ true ↦ all_match test rs xs | false ↦ false ]
