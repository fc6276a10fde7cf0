-- THE LINES OF A LIST OF NUMBERS: docs/SPECIFICATION.md, "The checklist". A line is a letter or none, then hexadecimal numbers, then a comment or none. Definitions only.
use Rattle.std.specs.Prelude.{Bool, true, false, cond, List, [], ◌∷◌, Option, Some, None, is_none, unwrap_or, ℕ, ◌+◌, ◌-◌, ◌*◌, ◌^◌, ltb, eqb, set, replicate}
use Rattle.number_lines.specs.declared.Line.{Line}

-- The value of a hexadecimal digit in lower case, and none for any other byte.
unfoldable pub digit_of : ℕ → Option ℕ
digit_of b = cond (ltb b 48) None (cond (ltb b 58) (Some (b - 48)) (cond (ltb b 97) None (cond (ltb b 103) (Some (b - 87)) None)))

-- Before the first byte: no letter, no number.
abbrev pub no_line : Line
no_line = record { letter = None; numbers = replicate 9 0; count = 0; wrong = false; comment = false; value = None }

-- The number that is read, so far: before its first digit 0.
abbrev pub so_far : Line → ℕ
so_far l = unwrap_or l.value 0

-- A digit more. A number with more than sixteen is wrong.
unfoldable pub with_digit : Line → ℕ → Line
with_digit l d =
    cond (ltb (so_far l) (2 ^ 60))
    (record { letter = l.letter; numbers = l.numbers; count = l.count; wrong = l.wrong; comment = l.comment; value = Some (so_far l * 16 + d) })
    (record { letter = l.letter; numbers = l.numbers; count = l.count; wrong = true; comment = l.comment; value = Some (so_far l) })

-- The number that was read is one of the line's. More than nine are wrong.
unfoldable pub pushed : Line → ℕ → Line
pushed l n =
    cond (ltb l.count 9)
    (record { letter = l.letter; numbers = set l.numbers l.count n; count = l.count + 1; wrong = l.wrong; comment = l.comment; value = None })
    (record { letter = l.letter; numbers = l.numbers; count = l.count; wrong = true; comment = l.comment; value = None })

-- After the last digit of a number, if there is one.
unfoldable pub pushed_by : Line → Option ℕ → Line
pushed_by l (Some n) = pushed l n
pushed_by l None = l

abbrev pub with_number : Line → Line
with_number l = pushed_by l l.value

-- Nothing stands on the line so far.
unfoldable pub is_blank : Line → Bool
is_blank l = cond l.wrong false (cond (is_none l.letter) (eqb l.count 0) false)

-- A capital letter, where nothing stands before it.
unfoldable pub may_lead : Line → ℕ → Bool
may_lead l b = cond (ltb b 65) false (cond (ltb 90 b) false (is_blank l))

-- A byte that is no digit. A space says nothing, a # begins a comment, and a letter may lead.
unfoldable pub with_sign : Line → ℕ → Line
with_sign l b =
    cond (eqb b 32) l
    (cond (eqb b 35)
    (record { letter = l.letter; numbers = l.numbers; count = l.count; wrong = l.wrong; comment = true; value = l.value })
    (cond (may_lead l b)
    (record { letter = Some b; numbers = l.numbers; count = l.count; wrong = l.wrong; comment = l.comment; value = l.value })
    (record { letter = l.letter; numbers = l.numbers; count = l.count; wrong = true; comment = l.comment; value = l.value })))

-- A byte more, which is a digit or is none.
unfoldable pub read_by : Line → ℕ → Option ℕ → Line
read_by l b (Some d) = with_digit l d
read_by l b None = with_sign (with_number l) b

-- A byte more, within a line. A comment is passed over.
unfoldable pub read_one : Line → ℕ → Line
read_one l b = cond l.comment l (read_by l b (digit_of b))

-- The whole line.
abbrev pub line_ended : Line → Line
line_ended l = with_number l

-- The lines of some bytes, after a line's first ones; each ends with the byte 10, and the last one with the list.
unfoldable pub lines_from : Line → List ℕ → List Line
lines_from l [] = line_ended l ∷ []
lines_from l (b ∷ bytes) = cond (eqb b 10) (line_ended l ∷ lines_from no_line bytes) (lines_from (read_one l b) bytes)

abbrev pub lines_of : List ℕ → List Line
lines_of bytes = lines_from no_line bytes
