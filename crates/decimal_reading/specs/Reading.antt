-- A NUMBER READ FROM ITS DIGITS: docs/SPECIFICATION.md, "Heights as text". Definitions only.
use Rattle.std.specs.Prelude.{Option, Some, None, cond, List, [], ◌∷◌, ℕ, ◌+◌, ◌-◌, ◌*◌, min, ltb, eqb, length}

-- The digits of a text, after others that stand for n; any other character is refused.
unfoldable pub read_after : ℕ → List ℕ → Option ℕ
read_after n [] = Some n
read_after n (c ∷ text) = cond (ltb c 48) None (cond (ltb 57 c) None (read_after (n * 10 + (c - 48)) text))

-- The number of one to nine decimal digits.
unfoldable pub read_of : List ℕ → Option ℕ
read_of text = cond (eqb (length text) 0) None (cond (ltb 9 (length text)) None (read_after 0 text))

-- A number, or a largest one where it is larger or none.
abbrev pub number_at_most : Option ℕ → ℕ → ℕ
number_at_most (Some n) most = min n most
number_at_most None most = most
