-- THE BARS OF A PANEL: docs/SPECIFICATION.md, "The page". Definitions only.
use Rattle.std.specs.Prelude.{List, ℕ, min}
use Rattle.text.specs.Text.{ascii}
use Rattle.gates.specs.declared.Gates.{Gates}
use Rattle.bar_paths.specs.Paths.{some_bars}

-- All that are used; a record has four places. They are filled and 15 mm high, and each has a thick edge where it starts: three lines side by side, so that bars that touch are seen as so many.
abbrev pub bars_text : Gates → List ℕ
bars_text g = some_bars (ascii "<path class='g' d='M") (ascii " 0V-1500h15V0h15V-1500H") g (min g.count 4)

-- Those of an older program, which lie beneath: outlines in grey, 3 mm higher, so that a longer bar does not hide them.
abbrev pub older_bars_text : Gates → List ℕ
older_bars_text g = some_bars (ascii "<path class='u' d='M") (ascii " 0V-1800H") g (min g.count 4)

-- Where each step ends, and the steps' numbers.
abbrev pub steps_text : List ℕ
steps_text =
    ascii "<path class='v' d='M1250-2500V0M2500-2500V0M3750-2500V0'/><text class='m' x='625' y='220'>1</text><text class='m' x='1875' y='220'>2</text><text class='m' x='3125' y='220'>3</text><text class='m' x='4375' y='220'>4</text>"
