-- THE CAPTIONS BELOW AN ENVELOPE'S FRAME: docs/SPECIFICATION.md, "The page". A row of cells, one for each segment that has samples. The origin is the lower left corner of the frame, a unit is
-- 1/100 mm, and y grows downward. Definitions only.
use Rattle.std.specs.Prelude.{cond, List, [], ◌∷◌, ◌++◌, ℕ, suc, ◌+◌, ◌-◌, ◌/◌, leb, ltb, get_or}
use Rattle.text.specs.Text.{ascii, texts_below}
use Rattle.numerals.specs.Spelled.{decimal_of}
use Rattle.words.specs.Words.{word_of}
use Rattle.labels.specs.Titles.{segment_name}
use Rattle.caption_cells.specs.Cells.{start_of, left_of}

-- The width that the name of segment k needs.
abbrev pub name_width : ℕ → ℕ
name_width k = get_or (800 ∷ 800 ∷ 920 ∷ 980 ∷ []) k 0

-- What stands in the cell of segment k: its name, where that fits between the edges, or its letter.
unfoldable pub name_text : ℕ → ℕ → ℕ → List ℕ
name_text k left end = cond (leb (name_width k) (end - left)) (segment_name k) (word_of (ascii "A|D|S|R") k)

-- A rule through the frame where the samples start, down to the cell, and on as its left and its lower edge. The right edge is the left one of the next cell; it is open above.
unfoldable pub outline_text : ℕ → ℕ → ℕ → List ℕ
outline_text start left end =
    ascii "<path class='v' d='M" ++ decimal_of start ++ ascii "-2500V20L" ++ decimal_of left ++ ascii " 160V450H" ++ decimal_of end ++ ascii "'/>"

-- The name or the letter, in the middle of the cell.
unfoldable pub label_text : ℕ → ℕ → ℕ → List ℕ
label_text k left end = ascii "<text class='m' x='" ++ decimal_of ((left + end) / 2) ++ ascii "' y='391'>" ++ name_text k left end ++ ascii "</text>"

-- The cell of a segment k between two edges, which are one where it has none.
unfoldable pub cell_between : ℕ → ℕ → ℕ → ℕ → List ℕ
cell_between k start left end = cond (ltb left end) (outline_text start left end ++ label_text k left end) []

-- The cell of segment k.
unfoldable pub cell_text : List ℕ → ℕ → List ℕ
cell_text captions k = cell_between k (start_of captions k) (left_of captions k) (left_of captions (suc k))

-- The right edge of the last cell.
unfoldable pub edge_text : ℕ → List ℕ
edge_text end = ascii "<path class='v' d='M" ++ decimal_of end ++ ascii " 160V450'/>"

-- The cells of the four segments, side by side.
unfoldable pub captions_text : List ℕ → List ℕ
captions_text captions = texts_below (cell_text captions) 4 ++ edge_text (left_of captions 4)
