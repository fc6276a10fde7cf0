-- A BIT PATTERN READ FROM ITS HEXADECIMAL DIGITS. Definitions only.
use Rattle.std.specs.Prelude.{Option, Some, None, Bool, false, cond, List, [], ◌∷◌, ℕ, ◌+◌, ◌-◌, ◌*◌, ltb, eqb, length, drop, get_or}

-- The value of a digit: 0 to 9, A to F and a to f; any other character has none.
unfoldable pub digit_of : ℕ → Option ℕ
digit_of c =
    cond (ltb c 48) None (cond (ltb c 58) (Some (c - 48))
    (cond (ltb c 65) None (cond (ltb c 71) (Some (c - 55))
    (cond (ltb c 97) None (cond (ltb c 103) (Some (c - 87)) None)))))

-- The digits of a text, after others that stand for n; any other character is refused.
unfoldable pub read_after : ℕ → List ℕ → Option ℕ
read_after n [] = Some n
read_after n (c ∷ text) = elim (digit_of c) [ Some d ↦ read_after (n * 16 + d) text | None ↦ None ]

-- The characters 0 and x stand in front.
unfoldable pub prefixed : List ℕ → Bool
prefixed text = cond (eqb (get_or text 0 0) 48) (eqb (get_or text 1 0) 120) false

-- The pattern of 0x and one to eight digits.
unfoldable pub read_of : List ℕ → Option ℕ
read_of text =
    cond (ltb (length text) 3) None
    (cond (ltb 10 (length text)) None
    (cond (prefixed text) (read_after 0 (drop 2 text)) None))
