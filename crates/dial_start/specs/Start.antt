-- HOW A LINE THAT SAYS WHAT TO DIAL IN BEGINS: docs/SPECIFICATION.md, "The page". `b` is the byte, and `was` what it was in the older program; where there is no older program the two are the same byte.
-- Definitions only.
use Rattle.std.specs.Prelude.{cond, List, [], ◌++◌, ℕ, eqb}
use Rattle.text.specs.Text.{ascii}
use Rattle.numerals.specs.Spelled.{decimal_of}

-- What the byte was, in small, after a byte that differs; after one that does not, nothing.
unfoldable pub was_text : ℕ → ℕ → List ℕ
was_text was b = cond (eqb was b) [] (ascii "<tspan class='w' dx='50'>was " ++ decimal_of was ++ ascii "</tspan>")

-- The start of the note. Beside a byte that differs it makes room for what the byte was: it stands further to the right, and is smaller.
unfoldable pub note_start : ℕ → ℕ → List ℕ
note_start was b = cond (eqb was b) (ascii "<tspan x='2750'>") (ascii "<tspan class='s' x='3380'>")

-- The name in the line at y, and the place of the byte, which is bold.
unfoldable pub name_start : ℕ → List ℕ → List ℕ
name_start y name = ascii "<text class='d' y='" ++ decimal_of y ++ ascii "'>" ++ name ++ ascii "<tspan class='b' x='2000'>"

-- The start of the line at y: the name, the byte, what it was, and the place of the note.
unfoldable pub dial_start : ℕ → List ℕ → ℕ → ℕ → List ℕ
dial_start y name was b = name_start y name ++ decimal_of b ++ ascii "</tspan>" ++ was_text was b ++ note_start was b

abbrev pub dial_end : List ℕ
dial_end = ascii "</tspan></text>"
