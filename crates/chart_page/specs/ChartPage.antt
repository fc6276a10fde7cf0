-- THE PAGE OF BENDS: docs/SPECIFICATION.md, "The page of bends". A4, landscape, in hundredths of a millimetre. Definitions only.
use Rattle.std.specs.Prelude.{List, ◌++◌, ℕ}
use Rattle.text.specs.Text.{ascii, texts_below}
use Rattle.chart_cells.specs.Cells.{cell_text}

-- The document's start, and the styles of texts (c byte, h head, m what stands beside it) and of rules; what the page is, how to read it, and how good a bend is; every other row on
-- grey, by z, a rule above every fourth row, and one below the last.
abbrev pub head_text : List ℕ
head_text =
    ascii "<svg xmlns='http://www.w3.org/2000/svg' width='297mm' height='210mm' viewBox='0 0 29700 21000'>\n" ++
    ascii "<style>@page{size:A4 landscape;margin:0}text{font:390px Helvetica,Arial,sans-serif}" ++
    ascii ".c{font-size:370px;font-weight:bold}.h{font-size:560px;font-weight:bold}.m{font-size:320px}" ++
    ascii "path{stroke:#000;stroke-width:30}.z{stroke:#e8e8e8;stroke-width:28300;stroke-dasharray:1190}</style>\n" ++
    ascii "<title>Bends of the curve bytes</title>\n" ++
    ascii "<rect width='29700' height='21000' fill='#fff'/>\n" ++
    ascii "<text class='h' x='700' y='1130'>Bends of the curve bytes</text>" ++
    ascii "<text class='m' x='9000' y='760'>In bold the curve byte c; below it its bend, rounded to six places, and the bits of the f32. From rule to rule the bend doubles.</text>" ++
    ascii "<text class='m' x='9000' y='1180'>The f32 differs from 2^((c - 128) / 64) by at most one part in 1,048,576 of that.</text>\n" ++
    ascii "<path class='z' d='M14850 1400V20440'/>" ++
    ascii "<path d='M700 1400H29000M700 6160H29000M700 10920H29000M700 15680H29000M700 20440H29000'/>\n"

-- The cells of the first n curve bytes.
abbrev pub cells_text : ℕ → List ℕ
cells_text n = texts_below cell_text n

unfoldable pub chart_text : List ℕ
chart_text = head_text ++ cells_text 256 ++ ascii "</svg>\n"
