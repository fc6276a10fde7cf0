-- A STRIP AS TEXT: docs/SPECIFICATION.md, "Heights as text". A row holds a sample's position and its height, in decimal and as bits, and its caption. Definitions only.
use Rattle.std.specs.Prelude.{cond, List, [], ◌++◌, ℕ, leb, eqb, length, get_or, Float}
use Rattle.std.specs.Float.{nan, binary32}
use Rattle.std.specs.Float.Ieee.{to_bits}
use Rattle.text.specs.Text.{ascii, texts_below}
use Rattle.numerals.specs.Spelled.{hex_of}
use Rattle.nine_places.specs.Places.{nine_places}
use Rattle.labels.specs.Titles.{segment_name}
use Rattle.strip.specs.Strip.{sample_position}
use Rattle.captions.specs.Captions.{no_caption}

-- Two numbers from 0 to 1, a space after each.
unfoldable pub decimals_text : Float → Float → List ℕ
decimals_text x y = nine_places x ++ ascii " " ++ nine_places y ++ ascii " "

-- A caption's segment, after a space, if there is one.
unfoldable pub caption_text : ℕ → List ℕ
caption_text caption = cond (eqb caption no_caption) [] (ascii " " ++ segment_name caption)

-- Position and height in nine places, then the bits of both in eight hexadecimal digits, then the caption.
unfoldable pub row_text : Float → Float → ℕ → List ℕ
row_text position height caption =
    decimals_text position height ++ hex_of (to_bits binary32 position) ++ ascii " " ++ hex_of (to_bits binary32 height) ++ caption_text caption ++ ascii "\n"

-- The row of sample i.
unfoldable pub sample_text : List Float → List ℕ → ℕ → List ℕ
sample_text heights captions i = row_text (sample_position (length heights) i) (get_or heights i nan) (get_or captions i no_caption)

-- The rows of the first k samples.
abbrev pub some_rows : List Float → List ℕ → ℕ → List ℕ
some_rows heights captions k = texts_below (sample_text heights captions) k

-- A row for each sample. The number of a sample has 16 bits: more than 65,536 samples have no rows.
unfoldable pub rows_text : List Float → List ℕ → List ℕ
rows_text heights captions = cond (leb (length heights) 65536) (some_rows heights captions (length heights)) []
