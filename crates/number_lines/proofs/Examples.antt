-- LINES, computed from their definitions. Assumes nothing.
use mathlib.Core.Path.{◌≡◌, refl}
use mathlib.Core.Bool.{true, false}
use Rattle.std.specs.Prelude.{Some, None}
use mathlib.Core.List.{[], ◌∷◌}
use Rattle.number_lines.specs.Lines.{digit_of, no_line, with_digit, pushed, pushed_by, is_blank, may_lead, with_sign, read_by, read_one, lines_from, lines_of}

-- "H 3f a # a": the letter is 72, the numbers are 63 and 10, and the comment says nothing. The line after it is empty.
letter_line : lines_of (72 ∷ 32 ∷ 51 ∷ 102 ∷ 32 ∷ 97 ∷ 32 ∷ 35 ∷ 32 ∷ 97 ∷ 10 ∷ [])
    ≡ record { letter = Some 72; numbers = 63 ∷ 10 ∷ 0 ∷ 0 ∷ 0 ∷ 0 ∷ 0 ∷ 0 ∷ 0 ∷ []; count = 2; wrong = false; comment = true; value = None } ∷ no_line ∷ []
unfolding digit_of with_digit pushed pushed_by is_blank may_lead with_sign read_by read_one lines_from
letter_line = refl

-- "1x": what is neither digit nor sign makes the line wrong.
wrong_line : lines_of (49 ∷ 120 ∷ [])
    ≡ record { letter = None; numbers = 1 ∷ 0 ∷ 0 ∷ 0 ∷ 0 ∷ 0 ∷ 0 ∷ 0 ∷ 0 ∷ []; count = 1; wrong = true; comment = false; value = None } ∷ []
unfolding digit_of with_digit pushed pushed_by is_blank may_lead with_sign read_by read_one lines_from
wrong_line = refl
